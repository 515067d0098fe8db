-- The text that is printed for what became of a command.
use Rattle.std.specs.Prelude.{ℕ, ◌-◌, ◌^◌, List, [], ◌∷◌, ◌++◌, Option, Some, None, Vec, codes, map, min}
use Rattle.std.specs.Fmt.{decimal}
use Rattle.quick_cache_model.specs.CacheState.{CacheState, item_count, total_weight}
use Rattle.quick_cache_shard.specs.Shard.{Shard, shown}
use Rattle.qcrun_parts.specs.declared.serving.session.Outcome.{Outcome}
use Rattle.qcrun_parts.specs.declared.events.Event.{Event}
use Rattle.qcrun_parts.specs.Answers.{text_of}
use Rattle.qcrun_parts.specs.Events.{event_text}

-- a text and the end of its line
abbrev pub line_of : List ℕ → List ℕ
line_of text = text ++ 10 ∷ []

-- an item's key, value and mark, behind a space
abbrev pub item_text : ℕ × ℕ × ℕ → List ℕ
item_text item =
    codes " " ++ decimal item.0 ++ codes ":" ++ decimal item.1 ++ codes ":" ++ decimal item.2

-- the items of a ring, one after another
unfoldable pub items_text : List (ℕ × ℕ × ℕ) → List ℕ
items_text [] = []
items_text (item ∷ items) = item_text item ++ items_text items

-- a number behind a space
abbrev pub spaced_number : ℕ → List ℕ
spaced_number number = codes " " ++ decimal number

-- the hashes of ghosts, each behind a space
unfoldable pub ghosts_text : List ℕ → List ℕ
ghosts_text [] = []
ghosts_text (hash ∷ hashes) = spaced_number hash ++ ghosts_text hashes

-- a pair's key and value, behind a space
abbrev pub pair_text : ℕ × ℕ → List ℕ
pair_text pair = codes " " ++ decimal pair.0 ++ codes ":" ++ decimal pair.1

-- pairs, one after another
unfoldable pub pairs_text : List (ℕ × ℕ) → List ℕ
pairs_text [] = []
pairs_text (pair ∷ pairs) = pair_text pair ++ pairs_text pairs

-- how many items there are, their weight, the hot target and the ghost limit
abbrev pub counts_text : CacheState ℕ ℕ → List ℕ
counts_text state =
    codes "count" ++ spaced_number (item_count state)
    ++ spaced_number (min (total_weight state) (2 ^ 64 - 1))
    ++ spaced_number state.hot_target ++ spaced_number state.ghost_limit

-- the rings, each from the head
abbrev pub rings_text : CacheState ℕ ℕ → List ℕ
rings_text state =
    line_of (codes "hot" ++ items_text (map shown state.hot))
    ++ line_of (codes "cold" ++ items_text (map shown state.cold))

-- what a cache holds: the rings from the head, the ghosts from the oldest, these items of weight 0,
-- and the counts
abbrev pub shown_text : CacheState ℕ ℕ → (still : List (ℕ × ℕ)) → List ℕ
shown_text state still =
    rings_text state
    ++ line_of (codes "ghosts" ++ ghosts_text state.ghosts)
    ++ line_of (codes "still" ++ pairs_text still)
    ++ line_of (counts_text state)

-- events, each in a line of its own
unfoldable pub event_lines : List Event → List ℕ
event_lines [] = []
event_lines (event ∷ events) = line_of (event_text event) ++ event_lines events

-- the events of a command, or that they are lost
abbrev pub events_text : {A : Type 0} → Option (Vec Event A) → List ℕ
events_text None = line_of (codes "events lost")
events_text (Some events) = event_lines events.items

-- the text for what became of a command, where this cache stands behind it: an answer stands behind
-- the events
abbrev pub outcome_text : {We B L A : Type 0} → Outcome A → Option (Shard ℕ ℕ We B L) → List ℕ
outcome_text (Outcome.Answered events answer) cache = events_text events ++ line_of (text_of answer)
outcome_text (Outcome.Shows still) (Some cache) = shown_text cache.state still.items
outcome_text (Outcome.Shows still) None = []
outcome_text Outcome.NoCache cache = []
