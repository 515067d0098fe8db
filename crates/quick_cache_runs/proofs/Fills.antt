-- A call that loads: it takes a placeholder, which is filled with a pair of an equal key, or given
-- up.
use Rattle.std.proofs.Common.{◌≡◌, ℕ, Bool, true, false, List, [], ◌∷◌, ◌++◌, map, None, IsPermutation, ap, subst, arith}
use Rattle.std.specs.Cmp.{IsEquivalence}
use Rattle.std.specs.List.{AllByRecursion}
use Rattle.std.specs.Prelude.{count_by}
use Rattle.std.proofs.lemmas.List.Sorted.{IsPermutation-refl, IsPermutation-sym}
use Rattle.quick_cache_model.specs.CacheState.{CacheState, LoadingEntry, IsValid, UpToOrder, entered}
use Rattle.quick_cache_model.specs.Hooks.{Rules, HookCall, EvictCold}
use Rattle.quick_cache_model.specs.Admission.{Admission, Admitted, TooHeavy, ChecksAdmission}
use Rattle.quick_cache_model.specs.Placeholders.{MakesPlaceholder, MeetsPlaceholder, GivesUpPlaceholder, FillsPlaceholder, MakesRoomFor}
use Rattle.quick_cache_model.specs.Writes.{new_item, queue_for}
use Rattle.quick_cache_model.proofs.EachElement.{all-middle}
use Rattle.quick_cache_model.proofs.KeyCounts.{loading_keys-split}
use Rattle.quick_cache_model.proofs.Valid.Placeholders.{MakesPlaceholder-valid, MeetsPlaceholder-valid, GivesUpPlaceholder-valid}
use Rattle.quick_cache_model.proofs.Valid.Placeholders.{FillsPlaceholder-valid}
use Rattle.quick_cache_model.specs.Loads.{TakesPlaceholder, Loads, LoadsNothing}
use Rattle.quick_cache_model.proofs.TakenKeys.{IsTicketOf, stands_for, taken_keys}
use Rattle.quick_cache_model.specs.Fates.{Comes, fate_of, residents}
use Rattle.quick_cache_runs.proofs.Eviction.{EvictsToCapacity-tells}
use Rattle.quick_cache_model.specs.Leads.{Leads, Tells}
use Rattle.quick_cache_model.proofs.Leads.{Leads-same, Leads-from, Leads-changes, Leads-leaves, Tells-append}
use Rattle.quick_cache_model.proofs.Residents.{residents-entered}
use Rattle.quick_cache_runs.proofs.Residents.{counted-residents}
use Rattle.quick_cache_runs.proofs.Told.{Told, Told-same, Told-append, Told-ordered, Told-reordered}
use Rattle.quick_cache_runs.proofs.Values.{comings-hooks, Leads-last}
use Rattle.quick_cache_runs.proofs.Writes.{value_of}

module _ {K V : Type 0} where
  -- the admission check of a pair
  ChecksAdmission-tells : (rules : Rules K V) (hot_target : ℕ) (key : K) (value : V)
      (calls : List (HookCall K V)) (answer : Admission V) (pairs : List (K × V))
      → ChecksAdmission rules hot_target key value calls answer
      → Tells ((key, value) ∷ pairs) calls ((key, value_of answer) ∷ pairs)
  ChecksAdmission-tells rules hot_target key value _ _ pairs (ChecksAdmission.is_light light) =
      Leads-same ((key, value) ∷ pairs)
  ChecksAdmission-tells rules hot_target key value _ _ pairs
      (ChecksAdmission.is_pinned heavy pinned) = Leads-same ((key, value) ∷ pairs)
  ChecksAdmission-tells rules hot_target key value _ _ pairs
      (ChecksAdmission.was_lightened left heavy unpinned light) =
      Leads-changes key value left (Leads-same ((key, left) ∷ pairs))
  ChecksAdmission-tells rules hot_target key value _ _ pairs
      (ChecksAdmission.is_too_heavy left heavy unpinned more) =
      Leads-changes key value left (Leads-same ((key, left) ∷ pairs))

  MakesRoomFor-tells : (ticket : ℕ) (old : CacheState K V) (rules : Rules K V) (weight : ℕ)
      (mid : CacheState K V) (calls : List (HookCall K V)) (new : CacheState K V)
      → MakesRoomFor ticket old rules weight mid calls new
      → Tells (residents mid) calls (residents new)
  MakesRoomFor-tells ticket old rules weight mid _ _ (MakesRoomFor.takes_none light) =
      Leads-same (residents mid)
  MakesRoomFor-tells ticket old rules weight mid _ _
      (MakesRoomFor.takes_some calls new heavy evicts) =
      EvictsToCapacity-tells rules 0 mid calls new evicts

module _ {K V : Type 0} (equal : K → K → Bool) (laws : IsEquivalence equal) (key : K) where
  module _ (hash : ℕ) (old : CacheState K V) (valid : IsValid equal old) where
    -- a placeholder that is made, or met, changes no pair
    makes-same : (own : K) (new : CacheState K V) → MakesPlaceholder (equal key) old hash own new
        → IsPermutation (residents old) (residents new)
    makes-same own _ (MakesPlaceholder.on_nothing stands nothing) =
        IsPermutation-refl (residents old)
    makes-same own _ (MakesPlaceholder.on_ghost before after stands there) =
        IsPermutation-refl (residents old)

    meets-same : (ticket : ℕ) (new : CacheState K V) → MeetsPlaceholder (equal key) old ticket new
        → IsPermutation (residents old) (residents new)
    meets-same _ _ (MeetsPlaceholder.is_there before entry after there) =
        IsPermutation-refl (residents old)

    takes-told : (ticket : ℕ) (new : CacheState K V)
        → TakesPlaceholder (equal key) hash old ticket new → Told equal old [] new
    takes-told _ new (TakesPlaceholder.makes own _ provided makes) =
        Told-same equal old new valid
        (MakesPlaceholder-valid equal laws (equal key) hash own old new
        (λ x. laws.congr key own x (stands_for equal key hash old own new makes)) makes valid)
        (makes-same own new makes)
    takes-told ticket new (TakesPlaceholder.meets _ _ meets) =
        Told-same equal old new valid
        (MeetsPlaceholder-valid equal laws (equal key) ticket old new meets valid)
        (meets-same ticket new meets)

  -- a fill of a placeholder that has an equal key
  pub record IsFilled (old : CacheState K V) (value : V) (calls : List (HookCall K V))
      (new : CacheState K V) : Type 0 where
    pub own : K
    pub same : equal key own ≡ true
    pub told : Told equal old (Comes own value ∷ map fate_of calls) new

  module _ (rules : Rules K V) (ticket : ℕ) (old : CacheState K V) (valid : IsValid equal old)
      (taken : AllByRecursion (IsTicketOf (equal key) ticket) old.loading) where
    -- what is told of a fill: its pair comes where no resident has its key
    filled : (entry : LoadingEntry K) (before after : List (LoadingEntry K))
        → old.loading ≡ before ++ entry ∷ after → entry.ticket ≡ ticket
        → (value : V) (calls : List (HookCall K V)) (new : CacheState K V)
        → IsValid equal new
        → Tells ((entry.key, value) ∷ residents old) calls (residents new)
        → IsFilled old value calls new
    filled entry before after split is_of value calls new is_valid tells =
        let comes = Leads.comes entry.key value (residents old) (map fate_of calls)
        (residents new) tells in
        record {
          own = entry.key;
          same = all-middle (IsTicketOf (equal key) ticket) before entry after
              (subst (λ entries. AllByRecursion (IsTicketOf (equal key) ticket) entries) split
              taken) is_of;
          told = record {
            leads = comes;
            valid = is_valid;
            last = λ k last_value last. Leads-last (equal k) last_value comes
                (omega (
                  arith,
                  comings-hooks (equal k) calls,
                  counted-residents (equal k) old,
                  valid.one_entry_a_key k,
                  ap (λ entries. count_by (λ own. equal k own.key) entries) split,
                  loading_keys-split (equal k) before entry after,
                )) last;
          };
        }

    fills-told : (value : V) (calls : List (HookCall K V)) (new : CacheState K V)
        → FillsPlaceholder ticket old rules false value calls None new
        → IsFilled old value calls new
    fills-told value _ _ (FillsPlaceholder.fills before entry after left first rest new there
        checks makes) =
        let item = new_item rules entry.key left (queue_for rules old entry.key left entry.queue)
        0 in
        let mid : CacheState K V = record old { loading = before ++ after } in
        filled entry before after there.split there.is_of_ticket value (first ++ rest) new
        (FillsPlaceholder-valid equal laws ticket rules false old new value (first ++ rest) None
        (FillsPlaceholder.fills before entry after left first rest new there checks makes) valid)
        (Tells-append first rest
        (ChecksAdmission-tells rules old.hot_target entry.key value first (Admitted left)
        (residents old) checks)
        (Leads-from ((entry.key, left) ∷ residents old) (residents (entered item mid))
        (IsPermutation-sym _ _ (residents-entered item mid))
        (MakesRoomFor-tells ticket old rules _ (entered item mid) rest new makes)))
    fills-told value _ _ (FillsPlaceholder.too_heavy before entry after left first there checks) =
        filled entry before after there.split there.is_of_ticket value
        (first ++ EvictCold entry.key left ∷ []) (record old { loading = before ++ after })
        (FillsPlaceholder-valid equal laws ticket rules false old _ value _ None
        (FillsPlaceholder.too_heavy before entry after left first there checks) valid)
        (Tells-append first (EvictCold entry.key left ∷ [])
        (ChecksAdmission-tells rules old.hot_target entry.key value first (TooHeavy left)
        (residents old) checks)
        (Leads-leaves (entry.key, left) (Leads-same (residents old))))

    gives_up-told : (new : CacheState K V) → GivesUpPlaceholder ticket old new
        → Told equal old [] new
    gives_up-told _ (GivesUpPlaceholder.was_there before entry after there) =
        Told-same equal old _ valid
        (GivesUpPlaceholder-valid equal laws ticket old _
        (GivesUpPlaceholder.was_there before entry after there) valid)
        (IsPermutation-refl (residents old))
    gives_up-told _ (GivesUpPlaceholder.was_gone none) =
        Told-same equal old old valid valid (IsPermutation-refl (residents old))

  module _ (rules : Rules K V) (hash : ℕ) (old : CacheState K V) (valid : IsValid equal old)
    where
      -- what is told once a placeholder was taken, in whatever order
      taken-told : (ticket : ℕ) (mid : CacheState K V)
          → UpToOrder (TakesPlaceholder (equal key) hash old ticket) mid → Told equal old [] mid
      taken-told ticket mid takes =
          Told-ordered equal (TakesPlaceholder (equal key) hash old ticket) old [] mid takes
          (λ state take. takes-told hash old valid ticket state take)

      -- a call that loads a value
      pub Loads-told : (value : V) (calls : List (HookCall K V)) (new : CacheState K V)
          → Loads rules (equal key) hash old value calls new → IsFilled old value calls new
      Loads-told value calls new loads =
          let takes = taken-told loads.ticket loads.mid loads.takes in
          let keys = taken_keys equal key hash old valid loads.ticket loads.mid loads.takes in
          let fill = fills-told rules loads.ticket loads.mid takes.valid keys value calls
          loads.fills.ordered loads.fills.holds in
          record {
            own = fill.own;
            same = fill.same;
            told = Told-append equal old loads.mid new [] (Comes fill.own value ∷ map fate_of calls)
                takes (Told-reordered equal loads.mid (Comes fill.own value ∷ map fate_of calls)
                loads.fills.ordered new loads.fills.same fill.told);
          }

      -- a call that loads nothing
      pub LoadsNothing-told : (new : CacheState K V)
          → LoadsNothing rules (equal key) hash old new → Told equal old [] new
      LoadsNothing-told new loads =
          let takes = taken-told loads.ticket loads.mid loads.takes in
          let keys = taken_keys equal key hash old valid loads.ticket loads.mid loads.takes in
          Told-append equal old loads.mid new [] [] takes
          (Told-ordered equal (GivesUpPlaceholder loads.ticket loads.mid) loads.mid [] new
          loads.gives_up
          (λ state gives_up. gives_up-told rules loads.ticket loads.mid takes.valid keys state
          gives_up))
