use Rattle.std.proofs.Common.{◌≡◌, ◌+◌, ap, arith}
use Rattle.std.specs.Int.NonZero.{non_zero_u32_get}
use Rattle.quick_cache_store.specs.Lists.{number_or_zero}
use Rattle.quick_cache_model.specs.Lookups.{Sees}
use Rattle.quick_cache_shard.specs.WalksFrom.{WalkFrom}
use Rattle.quick_cache_traced.proofs.PairLemmas.{Sees-next, never_ends, number_of}
use Rattle.quick_cache_traced.proofs.looks.pair_under.Goals as goal

pub returns-in_default-clause-sees : goal.returns-in_default-clause-sees
returns-in_default-clause-sees g c = Sees.is_absent c.in_default.ensures.absent

-- there is an item at the token
pub returns-in-None-clause-sees : goal.returns-in-None-clause-sees
returns-in-None-clause-sees g c =
    let under = c.in-Some.ensures.token in
    let begins = c.iter_from-walk.ensures.begins in
    let numbered = number_of c.new.result _ c.new.ensures in
    let value = c.get.ensures.value in
    let nonzero = c.get.ensures.nonzero in
    let before : number_or_zero c.new.result + 1 ≡ non_zero_u32_get c.in-Some.token =
    omega (arith, numbered, value, nonzero) in
    absurd (never_ends g.K.PartialEq.eq c.args.shard.now.places _ _ under.item.key before
    under.stands.place c.iter_from-walk.result
    (ap (λ (walk : WalkFrom _ _). walk.places) begins)
    (ap (λ (walk : WalkFrom _ _). walk.after) begins) c.in-None.ensures.steps.0)

-- which is the one that the walk shows
pub returns-in-Some-next-clause-sees : goal.returns-in-Some-next-clause-sees
returns-in-Some-next-clause-sees g c =
    let under = c.in-Some.ensures.token in
    let begins = c.iter_from-walk.ensures.begins in
    let numbered = number_of c.new.result _ c.new.ensures in
    let value = c.get.ensures.value in
    let nonzero = c.get.ensures.nonzero in
    let before : number_or_zero c.new.result + 1 ≡ non_zero_u32_get c.in-Some.token =
    omega (arith, numbered, value, nonzero) in
    Sees-next g.K.PartialEq.eq c.args.shard.now.places _ _ under.item.key before
    under.stands.place c.iter_from-walk.result
    (ap (λ (walk : WalkFrom _ _). walk.places) begins)
    (ap (λ (walk : WalkFrom _ _). walk.after) begins) c.iter_from-walk.ensures.sound.places
    (g.K.PartialEq.eq c.args.key.now) c.args.shard.now.state
    (ap (λ (walk : WalkFrom _ _). walk.residents) begins) under.passes _ _
    c.in-Some-next.ensures.steps
