-- What the hooks do to what a call keeps.
use Rattle.std.specs.Prelude.{◌≡◌}
use Rattle.quick_cache_model.specs.declared.queue.Queue.{Queue}
use Rattle.quick_cache_listeners.specs.declared.causes.cause.Cause.{Cause}
use Rattle.quick_cache_listeners.specs.declared.causes.cause.Stage.{Stage}
use Rattle.quick_cache_listeners.specs.declared.causes.listener.Request.{Request}
use Rattle.quick_cache_listeners.specs.Causes.{cause_at}

-- `before_evict` is noted, and leaves the value as it is
abbrev pub Arms : {V S : Type 0} → Request S → V → Request S → V → Type 0
Arms old value new left = (new ≡ record old { stage = Stage.Armed }) × (left ≡ value)

-- the listener is told a pair of that ring, with its cause
abbrev pub TellsWhy : {K V S : Type 0} → (S → K → V → Cause → S → Type 0) → Queue → Request S → K
    → V → Request S → Type 0
TellsWhy tells queue old key value new =
    tells old.state key value (cause_at old.stage queue) new.state × (new.stage ≡ Stage.Told)

module _ {K V S : Type 0} where
  -- `before_evict` is noted, and the inner hook does what it does
  abbrev pub ArmsOver : (S → K → V → S → V → Type 0) → Request S → K → V → Request S → V → Type 0
  ArmsOver inner old key value new left =
      inner old.state key value new.state left × (new.stage ≡ Stage.Armed)

  -- a pair left, and the inner hook is told
  abbrev pub TellsOver : (S → K → V → S → Type 0) → Request S → K → V → Request S → Type 0
  TellsOver inner old key value new = inner old.state key value new.state × (new.stage ≡ Stage.Told)
