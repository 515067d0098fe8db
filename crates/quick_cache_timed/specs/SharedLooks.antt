-- Looks in a shared cache, which renew what they find where its life slides.
use Rattle.std.specs.Prelude.{ℕ, Bool, true, false, Option, Result}
use Rattle.quick_cache_model.specs.CacheState.{CacheState}
use Rattle.quick_cache_model.specs.Hooks.{Rules}
use Rattle.quick_cache_model.specs.declared.refusal.Refusal.{Refusal}
use Rattle.quick_cache_expiring.specs.declared.lasting.Lasting.{Lasting}
use Rattle.quick_cache_expiring_sync.specs.Looks.{ShowsAt}
use Rattle.quick_cache_expiring_sync.specs.Renewals.{GetsAndTouches}

-- A look shows what serves; where the life slides it is renewed in the same step.
abbrev pub GetsSharedBy : {K V : Type 0} → (stands_for : K → Bool) → (now until : ℕ)
    → Rules K (Lasting V) → CacheState K (Lasting V) → (V → V → Type 0) → (slides : Bool)
    → Result (Option V) Refusal → Type 0
GetsSharedBy stands_for now until rules old is_clone false answer =
    ShowsAt stands_for is_clone now old answer
GetsSharedBy stands_for now until rules old is_clone true answer =
    GetsAndTouches stands_for now until rules old is_clone answer
