-- What is told of steps in which no pair comes: look-ups, references, removals, and what takes out
-- many pairs at once.
use Rattle.std.proofs.Common.{◌≡◌, ℕ, Bool, not, List, [], ◌∷◌, ◌++◌, map, Option, IsPermutation, refl, sym, ap, subst, ◌∙◌}
use Rattle.std.specs.Cmp.{IsEquivalence}
use Rattle.std.specs.List.{filter}
use Rattle.std.specs.Option.{option_to_list}
use Rattle.std.proofs.lemmas.List.{append-nil, append_assoc, map-append}
use Rattle.std.proofs.lemmas.List.Elements.{filter-append}
use Rattle.std.proofs.lemmas.List.Sorted.{IsPermutation-refl, IsPermutation-sym, IsPermutation-trans, IsPermutation-map}
use Rattle.std.proofs.lemmas.List.Sorted.{IsPermutation-filter_both, IsPermutation-append_comm}
use Rattle.quick_cache_model.specs.CacheState.{CacheState, Item, Place, InHot, InCold, InStill, with_items, IsValid}
use Rattle.quick_cache_model.specs.Capacity.{SetsCapacity, resized}
use Rattle.quick_cache_model.specs.Finding.{IsItemAt}
use Rattle.quick_cache_model.specs.Hooks.{Rules, HookCall}
use Rattle.quick_cache_model.specs.Lookups.{LooksUp, looked_up, after_hit}
use Rattle.quick_cache_model.specs.Removal.{Removes, RemovesIf, Retains, Drains, cleared, pair_of, weighed, reweighed}
use Rattle.quick_cache_model.proofs.Valid.Edits.{cleared-valid}
use Rattle.quick_cache_model.proofs.Valid.Lookups.{LooksUp-valid, Removes-valid, RemovesIf-valid, Retains-valid, Drains-valid}
use Rattle.quick_cache_model.proofs.Valid.Lookups.{reweighed-valid}
use Rattle.quick_cache_model.proofs.Valid.Places.{IsInPlace-marked}
use Rattle.quick_cache_model.proofs.Valid.States.{IsValid-in_place, SetsCapacity-valid}
use Rattle.quick_cache_model.specs.References.{WritesItem}
use Rattle.quick_cache_model.specs.Fates.{Changes, Leaves, fate_of, leaving, residents}
use Rattle.quick_cache_runs.specs.Fates.{Rewrite, changing, IsRewrite}
use Rattle.quick_cache_runs.proofs.Eviction.{EvictsToCapacity-tells}
use Rattle.quick_cache_model.specs.Leads.{Leads}
use Rattle.quick_cache_model.proofs.Leads.{Leads-same, Leads-from, Leads-changes, Leads-leaves, Leads-all}
use Rattle.quick_cache_model.proofs.Residents.{residents-between, residents-split, residents-rewritten}
use Rattle.quick_cache_runs.proofs.Told.{Told, Told-quiet, Told-same, Told-nothing}
use Rattle.quick_cache_runs.proofs.Values.{comings-hooks, comings-leaving}

module _ {K V : Type 0} where
  -- a hit that is counted changes no item
  hit-same : (place : Place) (items : List (Item K V)) (state : CacheState K V)
      → residents (with_items place items (after_hit state))
      ≡ residents (with_items place items state)
  hit-same InHot items state = refl
  hit-same InCold items state = refl
  hit-same InStill items state = refl

  LooksUp-same : {X : Type 0} (of : Item K V → X) (stands_for : K → Bool) (old : CacheState K V)
      (answer : Option X) (new : CacheState K V)
      → LooksUp stands_for old of answer new → IsPermutation (residents old) (residents new)
  LooksUp-same of stands_for old _ _ (LooksUp.hit place before item after there) =
      let items = before ++ looked_up old.mark_cut item ∷ after in
      subst (λ pairs. IsPermutation (residents old) pairs) (sym (hit-same place items old))
      (IsPermutation-trans (residents old)
      (pair_of item ∷ residents (with_items place (before ++ after) old))
      (residents (with_items place items old))
      (residents-split place before item after old there.split)
      (IsPermutation-sym _ _
      (residents-between place before (looked_up old.mark_cut item) after old)))
  LooksUp-same of stands_for old _ _ (LooksUp.miss none) = IsPermutation-refl (residents old)

module _ {K V : Type 0} (equal : K → K → Bool) (laws : IsEquivalence equal)
    (old : CacheState K V) (valid : IsValid equal old) where
  -- a look-up
  pub LooksUp-told : {X : Type 0} (of : Item K V → X) (stands_for : K → Bool) (answer : Option X)
      (new : CacheState K V) → LooksUp stands_for old of answer new → Told equal old [] new
  LooksUp-told of stands_for answer new looks =
      Told-same equal old new valid
      (LooksUp-valid equal stands_for of old new answer looks valid)
      (LooksUp-same of stands_for old answer new looks)

  -- an item that leaves
  taken : (place : Place) (before : List (Item K V)) (item : Item K V) (after : List (Item K V))
      (stands_for : K → Bool) → IsItemAt stands_for old place before item after
      → IsValid equal (with_items place (before ++ after) old)
      → Told equal old (Leaves item.key item.value ∷ []) (with_items place (before ++ after) old)
  taken place before item after stands_for there is_valid =
      let rest = with_items place (before ++ after) old in
      Told-quiet equal old (Leaves item.key item.value ∷ []) rest valid is_valid (λ key. refl)
      (Leads-from (residents old) (pair_of item ∷ residents rest)
      (residents-split place before item after old there.split)
      (Leads-leaves (pair_of item) (Leads-same (residents rest))))

  -- a removal
  pub Removes-told : (stands_for : K → Bool) (hash : ℕ) (answer : Option (K × V))
      (new : CacheState K V) → Removes stands_for old hash answer new
      → Told equal old (map leaving (option_to_list answer)) new
  Removes-told stands_for hash _ _ (Removes.of_item place before item after there) =
      taken place before item after stands_for there
      (Removes-valid equal stands_for hash old _ _
      (Removes.of_item place before item after there) valid)
  Removes-told stands_for hash _ _ (Removes.of_loading before entry after there) =
      Told-same equal old _ valid
      (Removes-valid equal stands_for hash old _ _
      (Removes.of_loading before entry after there) valid) (IsPermutation-refl (residents old))
  Removes-told stands_for hash _ _ (Removes.of_ghost before after there) =
      Told-same equal old _ valid
      (Removes-valid equal stands_for hash old _ _ (Removes.of_ghost before after there) valid)
      (IsPermutation-refl (residents old))
  Removes-told stands_for hash _ _ (Removes.of_nothing nothing) = Told-nothing equal old valid

  -- a removal by a test
  pub RemovesIf-told : (stands_for : K → Bool) (passes : V → Bool) (answer : Option (K × V))
      (new : CacheState K V) → RemovesIf stands_for old passes answer new
      → Told equal old (map leaving (option_to_list answer)) new
  RemovesIf-told stands_for passes _ _ (RemovesIf.goes place before item after there passed) =
      taken place before item after stands_for there
      (RemovesIf-valid equal stands_for passes old _ _
      (RemovesIf.goes place before item after there passed) valid)
  RemovesIf-told stands_for passes _ _ (RemovesIf.stays place before item after there failed) =
      Told-nothing equal old valid
  RemovesIf-told stands_for passes _ _ (RemovesIf.absent none) = Told-nothing equal old valid

  -- the pairs that a retain does not keep
  abbrev dropped : (K → V → Bool) → List (K × V)
  dropped keeps = map pair_of
      (filter (λ item. not (keeps item.key item.value)) (old.hot ++ (old.cold ++ old.still)))

  pub Retains-told : (keeps : K → V → Bool) (new : CacheState K V) → Retains keeps old new
      → Told equal old (map leaving (dropped keeps)) new
  Retains-told keeps new retains =
      let keep : Item K V → Bool = λ item. keeps item.key item.value in
      let drop : Item K V → Bool = λ item. not (keeps item.key item.value) in
      let items = old.hot ++ (old.cold ++ old.still) in
      let stay : residents new ≡ map pair_of (filter keep items) =
      ap residents retains ∙ ap (map pair_of)
      (sym (filter-append keep old.hot (old.cold ++ old.still)
      ∙ ap (λ l. filter keep old.hot ++ l) (filter-append keep old.cold old.still))) in
      Told-quiet equal old (map leaving (dropped keeps)) new valid
      (Retains-valid equal keeps old new retains valid)
      (λ key. comings-leaving (equal key) (dropped keeps))
      (Leads-from (residents old) (dropped keeps ++ residents new)
      (subst (λ pairs. IsPermutation (residents old) (dropped keeps ++ pairs)) (sym stay)
      (IsPermutation-trans (residents old)
      (map pair_of (filter keep items ++ filter drop items))
      (dropped keeps ++ map pair_of (filter keep items))
      (IsPermutation-map pair_of items (filter keep items ++ filter drop items)
      (IsPermutation-filter_both keep drop (λ item. refl) items))
      (subst (λ pairs. IsPermutation pairs (dropped keeps ++ map pair_of (filter keep items)))
      (sym (map-append pair_of (filter keep items) (filter drop items)))
      (IsPermutation-append_comm (map pair_of (filter keep items)) (dropped keeps)))))
      (Leads-all (dropped keeps) (residents new)))

  -- all pairs leave, in some order
  all_out : (pairs : List (K × V)) (new : CacheState K V)
      → IsPermutation (residents old) pairs → residents new ≡ [] → IsValid equal new
      → Told equal old (map leaving pairs) new
  all_out pairs new order none is_valid =
      Told-quiet equal old (map leaving pairs) new valid is_valid
      (λ key. comings-leaving (equal key) pairs)
      (Leads-from (residents old) pairs order
      (subst (λ all. Leads pairs (map leaving pairs) all) (sym none)
      (subst (λ all. Leads all (map leaving pairs) []) (append-nil pairs) (Leads-all pairs []))))

  -- a clear
  pub cleared-told : Told equal old (map leaving (residents old)) (cleared old)
  cleared-told = all_out (residents old) (cleared old) (IsPermutation-refl (residents old)) refl
      (cleared-valid equal old)

  -- a drain
  pub Drains-told : (pairs : List (K × V)) (new : CacheState K V) → Drains old pairs new
      → Told equal old (map leaving pairs) new
  Drains-told pairs new drains =
      all_out pairs new
      (subst (λ items. IsPermutation (map pair_of items) pairs)
      (append_assoc old.hot old.cold old.still) drains.0)
      (ap residents drains.1) (Drains-valid equal old new pairs drains)

  module _ (rules : Rules K V) where
    -- a new capacity
    pub SetsCapacity-told : (capacity : ℕ) (calls : List (HookCall K V)) (new : CacheState K V)
        → SetsCapacity rules capacity old calls new → Told equal old (map fate_of calls) new
    SetsCapacity-told capacity _ _ (SetsCapacity.sets mid calls evicts) =
        Told-quiet equal old (map fate_of calls) _ valid
        (SetsCapacity-valid equal rules capacity old _ calls
        (SetsCapacity.sets mid calls evicts) valid)
        (λ key. comings-hooks (equal key) calls)
        (EvictsToCapacity-tells rules 0 (resized rules capacity old) calls mid evicts)

    -- a value that was written through a reference, or none
    pub record IsRewritten (key : K) (left : V) (there : Bool) (new : CacheState K V)
        : Type 0 where
      pub written : List (Rewrite K V)
      pub is : IsRewrite equal key left there written
      pub told : Told equal old (map changing written) new

    pub WritesItem-told : (key : K) (left : V) (there : Bool) (new : CacheState K V)
        → WritesItem rules (equal key) old left there new → IsRewritten key left there new
    WritesItem-told key left _ _ (WritesItem.written place before item after there) =
        let rest = residents (with_items place (before ++ after) old) in
        let new = reweighed rules place before item after left old in record {
          written = record { key = item.key; value = item.value; left = left } ∷ [];
          is = (item.key, item.value, there.passes, refl);
          told = Told-quiet equal old (Changes item.key item.value left ∷ []) new valid
              (reweighed-valid equal laws rules place before item item after left old there.split
              refl refl
              (IsInPlace-marked place before item after old there.split
              (IsValid-in_place equal old valid)) valid)
              (λ k. refl)
              (Leads-from (residents old) (pair_of item ∷ rest)
              (residents-split place before item after old there.split)
              (Leads-changes item.key item.value left
              (Leads.rests ((item.key, left) ∷ rest) (residents new)
              (IsPermutation-sym _ _
              (residents-rewritten place before (weighed rules item left) after old)))));
        }
    WritesItem-told key left _ _ (WritesItem.unwritten none) =
        record { written = []; is = refl; told = Told-nothing equal old valid }
