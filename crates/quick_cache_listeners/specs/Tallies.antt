-- Counts of what left, by its cause.
use Rattle.std.specs.Prelude.{◌≡◌, ℕ, List, ◌++◌, codes}
use Rattle.std.specs.Fmt.{decimal}
use Rattle.quick_cache_model.specs.declared.queue.Queue.{Queue}
use Rattle.quick_cache_model.specs.Touches.{counted_up}
use Rattle.quick_cache_listeners.specs.declared.causes.cause.Cause.{Cause}
use Rattle.quick_cache_listeners.specs.declared.causes.cause.Stage.{Stage}
use Rattle.quick_cache_listeners.specs.declared.causes.counted.Counts.{Counts}
use Rattle.quick_cache_listeners.specs.declared.causes.listener.Request.{Request}
use Rattle.quick_cache_listeners.specs.declared.causes.tallies.Tallies.{Tallies}
use Rattle.quick_cache_listeners.specs.declared.causes.tallies.Tally.{Tally}
use Rattle.quick_cache_listeners.specs.Causes.{cause_at}

-- what left for a cause
abbrev pub tally_of : Cause → Tallies → Tally
tally_of Cause.EvictedHot tallies = tallies.evicted_hot
tally_of Cause.EvictedCold tallies = tallies.evicted_cold
tally_of Cause.Replaced tallies = tallies.replaced
tally_of Cause.TurnedAway tallies = tallies.turned_away
tally_of Cause.Expired tallies = tallies.expired
tally_of Cause.Removed tallies = tallies.removed
tally_of Cause.Cleared tallies = tallies.cleared
tally_of Cause.Retained tallies = tallies.retained

-- one pair more, of that weight
abbrev pub with_pair : (weight : ℕ) → Tally → Tally
with_pair weight tally = record {
  pairs = counted_up 1 tally.pairs;
  weight = counted_up weight tally.weight;
}

-- it left for that cause
abbrev pub counted : Cause → (weight : ℕ) → Tallies → Tallies
counted Cause.EvictedHot weight tallies =
    record tallies { evicted_hot = with_pair weight tallies.evicted_hot }
counted Cause.EvictedCold weight tallies =
    record tallies { evicted_cold = with_pair weight tallies.evicted_cold }
counted Cause.Replaced weight tallies =
    record tallies { replaced = with_pair weight tallies.replaced }
counted Cause.TurnedAway weight tallies =
    record tallies { turned_away = with_pair weight tallies.turned_away }
counted Cause.Expired weight tallies =
    record tallies { expired = with_pair weight tallies.expired }
counted Cause.Removed weight tallies =
    record tallies { removed = with_pair weight tallies.removed }
counted Cause.Cleared weight tallies =
    record tallies { cleared = with_pair weight tallies.cleared }
counted Cause.Retained weight tallies =
    record tallies { retained = with_pair weight tallies.retained }

-- two lines for a cause: how many pairs left, and what they weighed
unfoldable pub tally_text : (cause : List ℕ) → Tally → List ℕ
tally_text cause tally =
    codes "cache_" ++ cause ++ codes "_total " ++ decimal tally.pairs ++ codes "\n"
    ++ codes "cache_" ++ cause ++ codes "_weight_total " ++ decimal tally.weight ++ codes "\n"

-- the lines of what made room
abbrev pub victims_text : Tallies → List ℕ
victims_text tallies =
    tally_text (codes "evicted_hot") tallies.evicted_hot
    ++ tally_text (codes "evicted_cold") tallies.evicted_cold

-- the lines of what a write replaced or turned away
abbrev pub written_text : Tallies → List ℕ
written_text tallies =
    tally_text (codes "replaced") tallies.replaced
    ++ tally_text (codes "turned_away") tallies.turned_away

-- the lines of what callers told
abbrev pub taken_text : Tallies → List ℕ
taken_text tallies =
    tally_text (codes "expired") tallies.expired
    ++ tally_text (codes "removed") tallies.removed
    ++ tally_text (codes "cleared") tallies.cleared
    ++ tally_text (codes "retained") tallies.retained

-- the lines of all causes
abbrev pub tallies_text : Tallies → List ℕ
tallies_text tallies = victims_text tallies ++ written_text tallies ++ taken_text tallies

module _ {K V S : Type 0} where
  -- `before_evict` is noted, nothing is counted, and the inner hook does what it does
  abbrev pub ArmsCount : (S → K → V → S → V → Type 0) → Request (Counts S) → K → V
      → Request (Counts S) → V → Type 0
  ArmsCount inner old key value new left =
      inner old.state.state key value new.state.state left × (new.stage ≡ Stage.Armed)
      × (new.state.tallies ≡ old.state.tallies)

  -- a pair of that weight left from that ring: it is counted by its cause, and the inner hook is
  -- told
  abbrev pub CountsPair : (S → K → V → S → Type 0) → (K → V → ℕ) → Queue → Request (Counts S) → K
      → V → Request (Counts S) → Type 0
  CountsPair inner weight_of queue old key value new =
      inner old.state.state key value new.state.state × (new.stage ≡ Stage.Told)
      × (new.state.tallies
      ≡ counted (cause_at old.stage queue) (weight_of key value) old.state.tallies)
