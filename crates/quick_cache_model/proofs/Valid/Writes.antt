-- Laws of writes: each leads from a valid state to a valid one, whatever the pair weighs.
use Rattle.std.proofs.Common.{◌≡◌, ℕ, ◌≤◌, Bool, List, ◌++◌, Option, refl, sym, subst, arith}
use Rattle.std.specs.Cmp.{IsEquivalence}
use Rattle.quick_cache_model.specs.declared.queue.Queue.{Queue}
use Rattle.quick_cache_model.specs.CacheState.{CacheState, Item, entered, rewritten, keys_by, IsValid}
use Rattle.quick_cache_model.specs.Hooks.{Rules, HookCall}
use Rattle.quick_cache_model.specs.Touches.{TakesTouches, first_mark}
use Rattle.quick_cache_model.specs.Writes.{Strategy, Insert, Replace, SoftReplace, mark_after, new_item, queue_for, WritesAdmitted}
use Rattle.quick_cache_model.specs.Writes.{TakesOutItem, RejectsTooHeavy, Writes}
use Rattle.quick_cache_model.proofs.TouchLaws.{with_touches-mark}
use Rattle.quick_cache_model.proofs.Eviction.Keys.{EvictsToCapacity-keys, keys_by-none}
use Rattle.quick_cache_model.proofs.Valid.Places.{IsInPlace-marked}
use Rattle.quick_cache_model.proofs.Valid.States.{IsValid-in_place, EvictsToCapacity-valid}
use Rattle.quick_cache_model.proofs.Valid.Edits.{entered-valid, rewritten-valid, without-valid, without_ghost-valid, unloaded-valid}
use Rattle.quick_cache_model.proofs.Valid.Edits.{keys_by-unloaded, keys_by-taken}

-- a write keeps the mark up to the greatest
pub mark_after-le : (cut : ℕ) (strategy : Strategy) (mark : ℕ) → mark ≤ cut
    → mark_after cut strategy mark ≤ cut
mark_after-le cut Insert mark within = omega arith
mark_after-le cut Replace mark within = omega arith
mark_after-le cut SoftReplace mark within = within

module _ {K V : Type 0} (equal : K → K → Bool) (laws : IsEquivalence equal) (rules : Rules K V)
    (key : K) where
  -- touches keep the mark up to the greatest
  pub TakesTouches-mark : (cut : ℕ) (may_count : ℕ → Type 0) (old new : Item K V)
      → TakesTouches cut may_count old new → old.mark ≤ cut → new.mark ≤ cut
  TakesTouches-mark cut may_count old new takes within =
      subst (λ (i : Item K V). i.mark ≤ cut) (sym takes.2)
      (with_touches-mark cut takes.0 old within)

  -- the write of a pair that was admitted
  pub WritesAdmitted-valid : (strategy : Strategy) (old : CacheState K V) (value : V)
      (new : CacheState K V) (calls : List (HookCall K V)) (answer : Option (K × V))
      → WritesAdmitted rules (equal key) key strategy old value calls answer new → IsValid equal old
      → IsValid equal new
  WritesAdmitted-valid strategy old value _ _ _
      (WritesAdmitted.inserts_new mid calls inserts nothing evicts) valid =
      let none : keys_by (equal key) mid ≡ 0 =
      omega (
        arith,
        keys_by-none (equal key) old nothing.keys,
        EvictsToCapacity-keys rules
            (equal key) (rules.weight key value) old mid calls evicts,
      )
      in
      entered-valid equal laws
      (new_item rules key value (queue_for rules old key value Queue.Cold) 0)
      mid none (omega arith)
      (EvictsToCapacity-valid equal rules (rules.weight key value) old mid calls evicts valid)
  WritesAdmitted-valid strategy old value _ _ _
      (WritesAdmitted.overwrites place before item touched after calls new there takes evicts)
      valid =
      let marked : item.mark ≤ old.mark_cut =
      IsInPlace-marked place before item after old there.split
      (IsValid-in_place equal old valid) in
      let written = new_item rules key value item.queue
      (mark_after old.mark_cut strategy touched.mark) in
      EvictsToCapacity-valid equal rules 0 (rewritten place before written after old)
      new calls evicts
      (rewritten-valid equal laws place before item written after old there.split there.passes refl
      (mark_after-le old.mark_cut strategy touched.mark
      (TakesTouches-mark old.mark_cut rules.may_count item touched takes marked)) valid)
  WritesAdmitted-valid strategy old value _ _ _
      (WritesAdmitted.inserts_over_ghost before after calls new inserts there evicts) valid =
      let mid : CacheState K V = record old { ghosts = before ++ after } in
      EvictsToCapacity-valid equal rules 0 (entered (new_item rules key value Queue.Hot 0) mid)
      new calls evicts
      (entered-valid equal laws (new_item rules key value Queue.Hot 0) mid
      (keys_by-none (equal key) old there.keys) (omega arith)
      (without_ghost-valid equal before (rules.hash key) after old there.split valid))
  WritesAdmitted-valid strategy old value _ _ _
      (WritesAdmitted.inserts_over_loading before entry after calls new inserts there evicts)
      valid =
      let mid : CacheState K V = record old { loading = before ++ after } in
      let item = new_item rules key value entry.queue (first_mark old.mark_cut) in
      EvictsToCapacity-valid equal rules 0 (entered item mid) new calls evicts
      (entered-valid equal laws item mid
      (keys_by-taken equal laws key old mid entry.key there.passes
      (keys_by-unloaded (equal key) before entry after old there.split) valid)
      (omega arith) (unloaded-valid equal before entry after old there.split valid))
  WritesAdmitted-valid strategy old value _ _ _ (WritesAdmitted.gives_back replaces none) valid =
      valid

  -- the item under a key is taken out
  pub TakesOutItem-valid : (old new : CacheState K V) (calls : List (HookCall K V))
      → TakesOutItem (equal key) old calls new
      → IsValid equal old → IsValid equal new
  TakesOutItem-valid old _ _ (TakesOutItem.was_there place before item after there) valid =
      without-valid equal place before item after old there.split valid
  TakesOutItem-valid old _ _ (TakesOutItem.was_absent none) valid = valid

  -- the rejection of a pair that is too heavy
  pub RejectsTooHeavy-valid : (strategy : Strategy) (old : CacheState K V) (value : V)
      (new : CacheState K V) (calls : List (HookCall K V)) (answer : Option (K × V))
      → RejectsTooHeavy (equal key) key strategy old value calls answer new
      → IsValid equal old → IsValid equal new
  RejectsTooHeavy-valid strategy old value _ _ _ (RejectsTooHeavy.reports calls new inserts takes)
      valid = TakesOutItem-valid old new calls takes valid
  RejectsTooHeavy-valid strategy old value _ _ _
      (RejectsTooHeavy.gives_back calls new replaces takes) valid =
      TakesOutItem-valid old new calls takes valid

  -- the write of a pair
  pub Writes-valid : (strategy : Strategy) (old : CacheState K V) (value : V) (new : CacheState K V)
      (calls : List (HookCall K V)) (answer : Option (K × V))
      → Writes rules (equal key) key strategy old value calls answer new → IsValid equal old
      → IsValid equal new
  Writes-valid strategy old value _ _ _ (Writes.admitted first rest left answer new checks writes)
      valid =
      WritesAdmitted-valid strategy old left new rest answer writes valid
  Writes-valid strategy old value _ _ _ (Writes.too_heavy first rest left answer new checks rejects)
      valid =
      RejectsTooHeavy-valid strategy old left new rest answer rejects valid
