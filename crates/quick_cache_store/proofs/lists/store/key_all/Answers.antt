use Rattle.std.proofs.Common.{length, ap, subst, refl, arith}
use Rattle.std.specs.Int.NonZero.{non_zero_u32_get as number}
use Rattle.quick_cache_index.specs.Index.{Leads}
use Rattle.quick_cache_store.specs.Sound.{AddsToken}
use Rattle.quick_cache_store.proofs.lists.CopyLemmas.{first-times, rest-times, rest-apart}
use Rattle.quick_cache_store.proofs.lists.store.key_all.Goals as goal

pub loop-token-init : goal.loop-token-init
loop-token-init g c =
    rw c.into_iter-token-iterator.ensures.into_iter_gives (record {
      room = refl;
      once = c.requires.once;
      apart = c.requires.apart;
      adds = λ last adds. adds;
    })

-- a token that is left is not in the index
pub insert_reserved-requires-clause-is_new : goal.insert_reserved-requires-clause-is_new
insert_reserved-requires-clause-is_new g c =
    let t = number c.in-Some.token in
    λ has. omega (
      arith,
      first-times t c.in-Some.slot c.loop-token.token-iterator c.next.new.self
          c.in-Some.ensures.steps,
      c.loop-token.invariant.apart t has,
    )

pub loop-token-preserved : goal.loop-token-preserved
loop-token-preserved g c =
    let t = number c.in-Some.token in
    let slot = c.in-Some.slot in
    let all = c.loop-token.token-iterator in
    let rest = c.next.new.self in
    let old = c.loop-token.index in
    let new = c.insert_reserved.new.self in
    let cut = c.in-Some.ensures.steps in
    let hash = c.hash.ensures in
    let adds : AddsToken old new slot.hash t = record {
      leads = subst (λ h. Leads new h t) hash c.insert_reserved.ensures.leads;
      kept = c.insert_reserved.ensures.kept;
      tokens = c.insert_reserved.ensures.tokens;
      count = c.insert_reserved.ensures.count;
    } in
    record {
      room = omega (arith, ap length cut, c.loop-token.invariant.room, c.insert_reserved.ensures.room);
      once = λ token. omega
          (arith, rest-times token t slot all rest cut, c.loop-token.invariant.once token);
      apart = rest-apart old new t slot all rest cut adds.tokens c.loop-token.invariant.once
          c.loop-token.invariant.apart;
      adds = λ last more. c.loop-token.invariant.adds last (rw cut (new, adds, more));
    }

pub returns : goal.returns
returns g c = record {
  room = omega (arith, c.loop-token.invariant.room, ap length c.in-None.ensures.steps.0);
  adds = c.loop-token.invariant.adds c.loop-token.index (rw c.in-None.ensures.steps.0 refl);
}
