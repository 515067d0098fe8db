-- A pair that a cache had before comes back to where it stood.
use Rattle.std.specs.Prelude.{◌≡◌, ℕ, min, Bool, Option, Some, None, Result, Ok, Err}
use Rattle.quick_cache_model.specs.declared.queue.Queue.{Queue}
use Rattle.quick_cache_model.specs.declared.refusal.Refusal.{Refusal}
use Rattle.quick_cache_model.specs.CacheState.{CacheState, UpToOrder, entered}
use Rattle.quick_cache_model.specs.Finding.{HasNothing}
use Rattle.quick_cache_model.specs.Hooks.{Rules}
use Rattle.quick_cache_model.specs.Refusals.{MayRefuse, needs_of_insert}
use Rattle.quick_cache_model.specs.Writes.{new_item}

module _ {K V : Type 0} (rules : Rules K V) (equal : K → K → Bool) (key : K) (value : V)
    (queue : Queue) (mark : ℕ) (old : CacheState K V) where
  -- nothing is known of the key
  abbrev pub IsUnknown : Type 0
  IsUnknown = HasNothing (equal key) (rules.hash key) old

  -- why it was given back: something is known of its key, or there was no slot or no memory for it
  abbrev pub IsGivenBack : Option Refusal → Type 0
  IsGivenBack None = IsUnknown → ⊥
  IsGivenBack (Some refusal) = IsUnknown
      × MayRefuse (needs_of_insert (equal key) (rules.hash key) old) old refusal

  -- The pair was put last in its ring, or among the weightless, with its mark or the greatest. Or it
  -- was given back, and nothing changed.
  abbrev pub AnswersRestore : Result (Unit {0}) (K × V × Option Refusal) → CacheState K V → Type 0
  AnswersRestore (Ok done) new = IsUnknown × UpToOrder
      (λ state. state ≡ entered (new_item rules key value queue (min mark old.mark_cut)) old) new
  AnswersRestore (Err back) new = (back.0 ≡ key) × (back.1 ≡ value) × (new ≡ old)
      × IsGivenBack back.2
