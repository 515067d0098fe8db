use Rattle.quick_cache_locked.proofs.PlaceLemmas.{ahead}
use Rattle.quick_cache_locked.proofs.places.is_ahead.Goals as goal

pub returns : goal.returns
returns g c = λ has. ahead g.K.PartialEq.eq c.args.key.now c.args.shard.now
    c.iter_from-walk.ensures.numbered c.token_of.ensures.sound.places c.token_of.result
    c.token_of.ensures.token c.token_of.ensures.absent has
