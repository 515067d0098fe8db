-- Looks of one thread, which renew what they find where its life slides.
use Rattle.std.specs.Prelude.{◌≡◌, ℕ, Bool, true, false, Option, None}
use Rattle.std.specs.Bool.{OnTrue, OnFalse}
use Rattle.quick_cache_model.specs.Hooks.{Rules}
use Rattle.quick_cache_expiring.specs.Entries.{Entries, Gets, Shows, Touches}
use Rattle.quick_cache_expiring.specs.declared.lasting.Lasting.{Lasting}

module _ {K V We B L : Type 0} (rules : Rules K (Lasting V)) (stands_for : K → Bool)
    (now until : ℕ) (old : Entries K V We B L) where
  -- An entry that serves is looked up; where its life slides it is renewed, and then shown.
  abbrev pub GetsBy : (slides : Bool) → Option V → Entries K V We B L → Type 0
  GetsBy false shown new = Gets stands_for now old shown new
  GetsBy true shown new = (renewed : Bool) × Touches rules stands_for now until old renewed new
      × OnTrue renewed (Shows stands_for now new.cache.state shown)
      × OnFalse renewed (shown ≡ None)

  -- Where the life slides, what serves is renewed; else nothing is done.
  abbrev pub RenewsBy : (slides : Bool) → Entries K V We B L → Type 0
  RenewsBy false new = new ≡ old
  RenewsBy true new = (renewed : Bool) × Touches rules stands_for now until old renewed new
