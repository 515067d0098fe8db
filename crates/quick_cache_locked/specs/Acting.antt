-- A callback of an entry call, as it is now, on a shard whose values fit.
use Rattle.std.specs.Prelude.{◌≡◌, Bool, true}
use denote.Ref.{Bor, MutBor}
use denote.Param.Members.{Mut}
use Rattle.quick_cache_model.specs.declared.calls.entry.EntryAction.{EntryAction}
use Rattle.quick_cache_model.specs.Callbacks.{Leaves}
use Rattle.quick_cache_policy.specs.Entering.{MayBeShown}

module _ {F K V T : Type 0}
    (calls : Mut F (Bor K × (MutBor V × Unit {0})) (EntryAction T × (MutBor V × Unit {0}))) where
  -- its next call, at references to this pair, may choose this and leave this value
  abbrev pub LeavesNow : F → K → V → EntryAction T → V → Type 0
  LeavesNow callback key value action left = (next : F)
      × Leaves calls callback key value action next left

  -- it may be called at each value that fits a key that the query stands for
  abbrev pub MayActNow : (fits : K → V → Type 0) → (stands_for : K → Bool) → F → Type 0
  MayActNow fits stands_for callback = (key : K) (value : V) → stands_for key ≡ true
      → fits key value → MayBeShown calls callback key value
