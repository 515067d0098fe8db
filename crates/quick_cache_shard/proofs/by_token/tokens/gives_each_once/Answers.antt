use Rattle.quick_cache_shard.proofs.PlaceWalkLemmas.{gives-once}
use Rattle.quick_cache_shard.proofs.by_token.tokens.gives_each_once.Goals as goal

pub returns : goal.returns
returns g c = λ key. gives-once g.K.PartialEq.eq g.met.K.Eq.laws key
