-- Saved pairs that come back, one after another.
use Rattle.std.specs.Prelude.{◌≡◌, ℕ, Bool, List, Option, Some, None, Result, Ok, Err}
use Rattle.std.specs.Iterator.{Drains, YieldsThen}
use Rattle.std.specs.List.{FoldsTo}
use Rattle.quick_cache_model.specs.declared.queue.Queue.{Queue}
use Rattle.quick_cache_model.specs.declared.refusal.Refusal.{Refusal}
use Rattle.quick_cache_model.specs.CacheState.{CacheState, empty_state}
use Rattle.quick_cache_model.specs.Sizes.{hot_target_of, ghost_limit_of}
use Rattle.quick_cache_options.specs.Options.{Settings}
use Rattle.quick_cache_shard.specs.Shard.{Shard}
use Rattle.quick_cache_shard.specs.Steps.{Goes, RestoresBy}
use Rattle.quick_cache_unsync.specs.Touches.{no_touches}

-- an empty cache of the sizes, the shares and the greatest mark that the options tell
abbrev pub empty_by : {K V : Type 0} → Settings → CacheState K V
empty_by options = record (empty_state options.weight_capacity
    (hot_target_of options.weight_capacity options.hot_allocation)
    (ghost_limit_of options.estimated_items_capacity options.ghost_allocation))
    { mark_cut = options.mark_cut }

module _ {K V We B L S : Type 0} (goes : Goes K V We B L S) (equal : K → K → Bool) where
  -- a pair, with its ring and its mark, was to come back, and this was the answer
  abbrev pub RestoresPair : Shard K V We B L → K × V × Queue × ℕ
      → Result (Unit {0}) (K × V × Option Refusal) → Shard K V We B L → Type 0
  RestoresPair old pair answer new =
      RestoresBy goes no_touches old equal pair.0 pair.1 pair.2 pair.3 answer new

  -- The pair came back, or it was left out, as something was known of its key.
  pub data ComesBack (old : Shard K V We B L) (pair : K × V × Queue × ℕ) (new : Shard K V We B L)
      : Type 0 where
    taken : RestoresPair old pair (Ok tt) new → ComesBack old pair new
    left_out : RestoresPair old pair (Err (pair.0, pair.1, None)) new → ComesBack old pair new

  module _ {I : Type 0} (gives : I → Option (K × V × Queue × ℕ) → I → Type 0) (pairs : I) where
    -- one more pair came, and it was refused
    pub record RefusesNext (came : List (K × V × Queue × ℕ)) (old : Shard K V We B L)
        (refusal : Refusal) (new : Shard K V We B L) : Type 0 where
      pub pair : K × V × Queue × ℕ
      pub rest : I
      pub yields : YieldsThen gives pairs came (Some pair) rest
      pub refuses : RestoresPair old pair (Err (pair.0, pair.1, Some refusal)) new

    -- how it ended: no pair was left, or one was refused
    abbrev pub EndsSo : (came : List (K × V × Queue × ℕ)) → (old : Shard K V We B L)
        → Result (Unit {0}) Refusal → (new : Shard K V We B L) → Type 0
    EndsSo came old (Ok done) new = Drains gives pairs came × (new ≡ old)
    EndsSo came old (Err refusal) new = RefusesNext came old refusal new

    -- The pairs came back one after another, and then it ended.
    pub record RestoresInTurn (old : Shard K V We B L) (answer : Result (Unit {0}) Refusal)
        (new : Shard K V We B L) : Type 0 where
      pub came : List (K × V × Queue × ℕ)
      pub full : Shard K V We B L
      pub takes : FoldsTo ComesBack old came full
      pub ends : EndsSo came full answer new

    -- in the end a pair was refused
    pub record StopsInTurn (old : Shard K V We B L) (refusal : Refusal) : Type 0 where
      pub new : Shard K V We B L
      pub stops : RestoresInTurn old (Err refusal) new
