-- What becomes of a pair that a cache is handed.
use Rattle.std.specs.Prelude.{List, ◌++◌, map}
use Rattle.quick_cache_model.specs.CacheState.{CacheState}
use Rattle.quick_cache_model.specs.Hooks.{HookCall, BeforeEvict, EvictHot, EvictCold}
use Rattle.quick_cache_model.specs.Removal.{pair_of}

-- what befalls a pair: it comes, its value changes, or it leaves
pub data Fate (K V : Type 0) : Type 0 where
  Comes : (key : K) (value : V) → Fate K V
  Changes : (key : K) (value left : V) → Fate K V
  Leaves : (key : K) (value : V) → Fate K V

module _ {K V : Type 0} where
  -- a pair that is handed in comes
  abbrev pub coming : K × V → Fate K V
  coming pair = Comes pair.0 pair.1

  -- a pair that is given out or dropped leaves
  abbrev pub leaving : K × V → Fate K V
  leaving pair = Leaves pair.0 pair.1

  -- what a hook call tells of its pair
  abbrev pub fate_of : HookCall K V → Fate K V
  fate_of (BeforeEvict key value left) = Changes key value left
  fate_of (EvictHot key value) = Leaves key value
  fate_of (EvictCold key value) = Leaves key value

  -- the pairs that are resident
  abbrev pub residents : CacheState K V → List (K × V)
  residents state = map pair_of (state.hot ++ (state.cold ++ state.still))
