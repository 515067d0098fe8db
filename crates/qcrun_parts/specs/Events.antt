-- What is kept of the hook calls of a command, and its text.
use Rattle.std.specs.Prelude.{◌≡◌, ⊤, ℕ, List, [], ◌∷◌, ◌++◌, Option, Some, None, Vec, codes, map}
use Rattle.std.specs.Fmt.{decimal}
use Rattle.quick_cache_model.specs.Hooks.{HookCall, BeforeEvict, EvictHot, EvictCold}
use Rattle.qcrun_parts.specs.declared.events.Event.{Event}
use Rattle.qcrun_parts.specs.Kinds.{value_left}

-- what is kept of a hook call: the pair as the hook was handed it
abbrev pub event_of : HookCall ℕ ℕ → Event
event_of (BeforeEvict key value left) = Event.Before key value
event_of (EvictHot key value) = Event.Hot key value
event_of (EvictCold key value) = Event.Cold key value

-- the hook, and the pair behind it
abbrev pub event_text : Event → List ℕ
event_text (Event.Before key value) = codes "before " ++ decimal key ++ codes " " ++ decimal value
event_text (Event.Hot key value) = codes "hot " ++ decimal key ++ codes " " ++ decimal value
event_text (Event.Cold key value) = codes "cold " ++ decimal key ++ codes " " ++ decimal value

-- each value that `before_evict` leaves is the one that its kind has left
abbrev pub LeavesByKind : List (HookCall ℕ ℕ) → Type 0
LeavesByKind [] = ⊤
LeavesByKind (BeforeEvict key value left ∷ calls) = (left ≡ value_left value) × LeavesByKind calls
LeavesByKind (EvictHot key value ∷ calls) = LeavesByKind calls
LeavesByKind (EvictCold key value ∷ calls) = LeavesByKind calls

module _ {A : Type 0} where
  -- One event more is kept. Where there is no memory for it none is, and none is again behind that.
  abbrev pub Keeps : Option (Vec Event A) → Event → Option (Vec Event A) → Type 0
  Keeps None event new = new ≡ None
  Keeps (Some old) event None = ⊤
  Keeps (Some old) event (Some new) = new.items ≡ old.items ++ event ∷ []

  -- The events of all these hook calls are kept, in their order; or some were called, and there was
  -- no memory for one.
  abbrev pub TellsOf : List (HookCall ℕ ℕ) → Option (Vec Event A) → Type 0
  TellsOf calls None = calls ≡ [] → ⊥
  TellsOf calls (Some events) = events.items ≡ map event_of calls
