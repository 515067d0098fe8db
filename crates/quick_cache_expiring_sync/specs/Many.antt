-- Many keys that are looked up at once, beside other threads.
use Rattle.std.specs.Prelude.{◌≡◌, ℕ, Bool, List, Option, map}
use Rattle.quick_cache_model.specs.declared.terms.lifecycle.Lifecycle as lifecycle
use Rattle.quick_cache_sync.specs.Many.{ShowsMany}
use Rattle.quick_cache_expiring.specs.declared.by_value.ByValue.{ByValue}
use Rattle.quick_cache_expiring.specs.declared.lasting.Lasting.{Lasting}
use Rattle.quick_cache_expiring.specs.Lastings.{ClonesLasting}
use Rattle.quick_cache_expiring_sync.specs.Looks.{serving}

-- The keys of the queries were looked up, and of what was found under each what serves is given.
pub record ShowsManyAt {Q K V L S : Type 0} (life : lifecycle.Ghosts L K (Lasting V) S)
    (equal : K → K → Bool) (is_clone : V → V → Type 0) (now : ℕ) (stands_for : Q → K → Bool)
    (queries : List Q) (values : List (Option V)) (We B : Type 0) (place_of : Q → ℕ) : Type 0 where
  pub found : List (Option (Lasting V))
  pub shows : ShowsMany life equal (ClonesLasting is_clone) stands_for queries found (ByValue We) B
      place_of
  pub serve : values ≡ map (serving now) found
