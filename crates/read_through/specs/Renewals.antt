-- Values whose loader is asked anew while they serve, beside other threads.
use Rattle.std.specs.Prelude.{◌≡◌, ℕ, nat_eq, Bool, true, false, Option, Some, None}
use Rattle.quick_cache_model.specs.declared.calls.entry.EntryAction.{EntryAction}
use Rattle.quick_cache_locked.specs.Fitting.{FitsQuery}
use Rattle.quick_cache_expiring.specs.declared.loaded.Loaded.{Loaded}
use Rattle.quick_cache_expiring.specs.Moments.{IsDue}
use Rattle.read_through.specs.declared.pace.Pace.{Pace}

module _ {V : Type 0} where
  -- how long its loader then is not asked anew: the one time where it was not asked since the load,
  -- else the other
  abbrev pub pause_of : Pace → Loaded V → ℕ
  pause_of pace loaded = pause (nat_eq loaded.asked loaded.moment)
    where
      pause : Bool → ℕ
      pause true = pace.after_load
      pause false = pace.after_try

  -- its loader is to be asked anew
  abbrev pub IsDueBy : Pace → (now : ℕ) → Loaded V → Type 0
  IsDueBy pace now loaded = IsDue loaded.asked (pause_of pace loaded) now

  -- what is due is asked for now, and its moment is told; all else stays as it is
  abbrev pub ChoosesToClaim : Pace → (now : ℕ) → Loaded V → EntryAction (Option ℕ) → Loaded V
      → Type 0
  ChoosesToClaim pace now old (EntryAction.Retain (Some moment)) new =
      IsDueBy pace now old × (moment ≡ old.moment) × (new ≡ record old { asked = now })
  ChoosesToClaim pace now old (EntryAction.Retain None) new =
      (IsDueBy pace now old → ⊥) × (new ≡ old)
  ChoosesToClaim pace now old EntryAction.Remove new = ⊥
  ChoosesToClaim pace now old EntryAction.ReplaceWithGuard new = ⊥

  -- it is of the moment that was claimed, and its loader was last asked now
  abbrev pub IsClaimed : (claimed now : ℕ) → Loaded V → Type 0
  IsClaimed claimed now loaded = (loaded.moment ≡ claimed) × (loaded.asked ≡ now)

  -- a clone of this value, which was loaded now
  abbrev pub IsLoadedNow : (is_clone : V → V → Type 0) → (now : ℕ) → V → Loaded V → Type 0
  IsLoadedNow is_clone now value loaded =
      is_clone value loaded.value × (loaded.moment ≡ now) × (loaded.asked ≡ now)

  -- what was claimed gives its place to what was loaded now, and that is told; all else stays as it is
  abbrev pub ChoosesToRenew : (is_clone : V → V → Type 0) → (claimed now : ℕ) → V → Loaded V
      → EntryAction Bool → Loaded V → Type 0
  ChoosesToRenew is_clone claimed now value old (EntryAction.Retain true) new =
      IsClaimed claimed now old × IsLoadedNow is_clone now value new
  ChoosesToRenew is_clone claimed now value old (EntryAction.Retain false) new = new ≡ old
  ChoosesToRenew is_clone claimed now value old EntryAction.Remove new = ⊥
  ChoosesToRenew is_clone claimed now value old EntryAction.ReplaceWithGuard new = ⊥

module _ {K V : Type 0} (fits : K → Loaded V → Type 0) (stands_for : K → Bool) where
  -- what stood under the query was due, and was of this moment
  pub record Claims (pace : Pace) (now moment : ℕ) : Type 0 where
    pub was : Loaded V
    pub due : IsDueBy pace now was
    pub of : moment ≡ was.moment
    pub fits_query : FitsQuery fits stands_for was

  -- what stood under the query was what was claimed, and what was loaded now has its place
  pub record Renews (is_clone : V → V → Type 0) (claimed now : ℕ) (value : V) : Type 0 where
    pub was : Loaded V
    pub left : Loaded V
    pub claimed_then : IsClaimed claimed now was
    pub loaded_now : IsLoadedNow is_clone now value left
    pub fits_query : FitsQuery fits stands_for was
