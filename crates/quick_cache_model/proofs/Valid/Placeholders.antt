-- Laws of placeholders: each call leads from a valid state to a valid one.
use Rattle.std.proofs.Common.{◌≡◌, ℕ, ◌≤◌, Bool, true, false, if◌then◌else◌, List, ◌++◌, Option, arith}
use Rattle.std.specs.Cmp.{IsEquivalence}
use Rattle.quick_cache_model.specs.declared.queue.Queue.{Queue}
use Rattle.quick_cache_model.specs.CacheState.{CacheState, entered, IsValid}
use Rattle.quick_cache_model.specs.Hooks.{Rules, HookCall}
use Rattle.quick_cache_model.specs.Lookups.{after_miss}
use Rattle.quick_cache_model.specs.Writes.{new_item, queue_for}
use Rattle.quick_cache_model.specs.Touches.{first_mark}
use Rattle.quick_cache_model.specs.Placeholders.{MakesPlaceholder, MeetsPlaceholder, GivesUpPlaceholder, MakesRoomFor, FillsPlaceholder}
use Rattle.quick_cache_model.proofs.EqualKeys.{keys_by-absent}
use Rattle.quick_cache_model.proofs.Valid.States.{EvictsToCapacity-valid}
use Rattle.quick_cache_model.proofs.Valid.Edits.{after_hit-valid, after_miss-valid, without_ghost-valid, unloaded-valid, entered-valid}
use Rattle.quick_cache_model.proofs.Valid.Edits.{with_placeholder-valid, keys_by-unloaded, keys_by-taken}

module _ {K V : Type 0} (equal : K → K → Bool) (laws : IsEquivalence equal) where
  -- a placeholder is made under a key that the query stands for: it stands for the keys that are
  -- equal to that one
  pub MakesPlaceholder-valid : (stands_for : K → Bool) (hash : ℕ) (key : K)
      (old new : CacheState K V) → ((x : K) → stands_for x ≡ equal key x)
      → MakesPlaceholder stands_for old hash key new → IsValid equal old → IsValid equal new
  MakesPlaceholder-valid stands_for hash key old _ exact
      (MakesPlaceholder.on_nothing stands nothing)
      valid =
      with_placeholder-valid equal laws key Queue.Cold (after_miss old)
      (keys_by-absent equal laws stands_for key exact old nothing.keys)
      (after_miss-valid equal old valid)
  MakesPlaceholder-valid stands_for hash key old _ exact
      (MakesPlaceholder.on_ghost before after stands there) valid =
      let mid : CacheState K V = record old { ghosts = before ++ after } in
      with_placeholder-valid equal laws key Queue.Hot (after_miss mid)
      (keys_by-absent equal laws stands_for key exact old there.keys)
      (after_miss-valid equal mid (without_ghost-valid equal before hash after old there.split
      valid))

  -- one that is there is met
  pub MeetsPlaceholder-valid : (stands_for : K → Bool) (ticket : ℕ) (old new : CacheState K V)
      → MeetsPlaceholder stands_for old ticket new
      → IsValid equal old → IsValid equal new
  MeetsPlaceholder-valid stands_for _ old _ (MeetsPlaceholder.is_there before entry after there)
      valid = after_hit-valid equal old valid

  -- one is given up
  pub GivesUpPlaceholder-valid : (ticket : ℕ) (old new : CacheState K V)
      → GivesUpPlaceholder ticket old new → IsValid equal old → IsValid equal new
  GivesUpPlaceholder-valid ticket old _ (GivesUpPlaceholder.was_there before entry after there)
      valid = unloaded-valid equal before entry after old there.split valid
  GivesUpPlaceholder-valid ticket old _ (GivesUpPlaceholder.was_gone none) valid = valid

  -- room is made for a value that fills one
  pub MakesRoomFor-valid : (ticket : ℕ) (old : CacheState K V) (rules : Rules K V) (weight : ℕ)
      (mid new : CacheState K V) (calls : List (HookCall K V))
      → MakesRoomFor ticket old rules weight mid calls new → IsValid equal mid → IsValid equal new
  MakesRoomFor-valid ticket old rules weight mid _ _ (MakesRoomFor.takes_none light) valid = valid
  MakesRoomFor-valid ticket old rules weight mid _ _
      (MakesRoomFor.takes_some calls new heavy evicts) valid =
      EvictsToCapacity-valid equal rules 0 mid new calls evicts valid

  -- one is filled
  pub FillsPlaceholder-valid : (ticket : ℕ) (rules : Rules K V) (marked : Bool)
      (old new : CacheState K V) (value : V) (calls : List (HookCall K V)) (answer : Option V)
      → FillsPlaceholder ticket old rules marked value calls answer new → IsValid equal old
      → IsValid equal new
  FillsPlaceholder-valid ticket rules marked old _ value _ _ (FillsPlaceholder.was_gone none)
      valid = valid
  FillsPlaceholder-valid ticket rules marked old _ value _ _
      (FillsPlaceholder.fills before entry after left first rest new there checks makes) valid =
      let mid : CacheState K V = record old { loading = before ++ after } in
      let item = new_item rules entry.key left (queue_for rules old entry.key left entry.queue)
      (if marked then first_mark old.mark_cut else 0) in
      MakesRoomFor-valid ticket old rules (rules.weight entry.key left) (entered item mid)
      new rest makes
      (entered-valid equal laws item mid
      (keys_by-taken equal laws entry.key old mid entry.key (laws.refl entry.key)
      (keys_by-unloaded (equal entry.key) before entry after old there.split) valid)
      (mark-le marked) (unloaded-valid equal before entry after old there.split valid))
    where
      mark-le : (b : Bool) → (if b then first_mark old.mark_cut else 0) ≤ old.mark_cut
      mark-le true = omega arith
      mark-le false = omega arith
  FillsPlaceholder-valid ticket rules marked old _ value _ _
      (FillsPlaceholder.too_heavy before entry after left first there checks) valid =
      unloaded-valid equal before entry after old there.split valid
