use Rattle.quick_cache_locked.proofs.WalkLemmas.{shows-once, takes-once}
use Rattle.quick_cache_locked.proofs.walk_laws.walk_law.Goals as goal

pub returns-clause-shows : goal.returns-clause-shows
returns-clause-shows g c = λ clones key.
    shows-once g.K.PartialEq.eq g.met.K.Eq.laws key g.K.Clone.is_clone g.V.Clone.is_clone clones

pub returns-clause-takes : goal.returns-clause-takes
returns-clause-takes g c = λ key. takes-once g.K.PartialEq.eq g.met.K.Eq.laws key

pub returns-clause-losing : goal.returns-clause-losing
returns-clause-losing g c = λ old new are_places loses was is there now same.
    are_places.one_token was is there (loses is now) same
