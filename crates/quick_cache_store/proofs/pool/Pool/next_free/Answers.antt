use Rattle.std.proofs.Common.{◌-◌, [], length, ap, refl, arith}
use Rattle.std.proofs.lemmas.List.{length-reverse}
use Rattle.quick_cache_store.proofs.pool.TokenCounts.{times-got}
use Rattle.quick_cache_store.proofs.pool.StackLemmas.{length-slots_past, no_tokens}
use Rattle.quick_cache_store.proofs.pool.Pool.next_free.Goals as goal

-- ---- no token is free

pub returns-then-count-eq0-clause-token : goal.returns-then-count-eq0-clause-token
returns-then-count-eq0-clause-token g c =
    let i = c.self.inside in
    let none = no_tokens i.free.items (omega arith) in
    rw (← c.self.view_is, none) (omega (arith, length-slots_past [] 0 i.items.items))

pub returns-then-count-eq0-clause-full : goal.returns-then-count-eq0-clause-full
returns-then-count-eq0-clause-full g c =
    let i = c.self.inside in
    let none = no_tokens i.free.items (omega arith) in
    let long = length-slots_past [] 0 i.items.items in
    rw (← c.self.view_is, none) (λ full. (refl, omega arith), λ full. omega (arith, full.1))

-- ---- the last of the stack

pub new_unchecked-requires : goal.new_unchecked-requires
new_unchecked-requires g c =
    let free = c.self.inside.free.items in
    let last = c.len-count.result - 1 in
    let here = c.self.invariant.within _ (times-got last free c.index.result.now (omega arith)) in
    omega (arith, here.0, c.index.ensures)

pub returns-clause-full : goal.returns-clause-full
returns-clause-full g c =
    let i = c.self.inside in
    let free = i.free.items in
    let last = c.len-count.result - 1 in
    let few = c.self.invariant.few in
    let here = c.self.invariant.within _ (times-got last free c.index.result.now (omega arith)) in
    rw (← c.self.view_is) (
      λ full. absurd (omega (arith, here.1, c.index.ensures, c.new_unchecked.ensures)),
      λ full. absurd (omega (arith, ap length full.0, length-reverse free)),
    )
