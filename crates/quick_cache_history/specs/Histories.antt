-- Histories of a cache in shards.
use Rattle.std.specs.Prelude.{ℕ, ◌==◌, Bool, false, if◌then◌else◌, List, [], ◌∷◌, filter, Result, Ok, Err}
use Rattle.std.specs.declared.alloc.Global.{Global}
use Rattle.quick_cache_model.specs.CacheState.{CacheState, empty_state}
use Rattle.quick_cache_model.specs.Sizes.{hot_target_of, ghost_limit_of}
use Rattle.quick_cache_model.specs.declared.calls.call.Call.{Call}
use Rattle.quick_cache_model.specs.declared.calls.reply.Reply.{Reply}
use Rattle.quick_cache_history.specs.declared.entry.Entry.{Entry}

module _ {K V : Type 0} where
  -- how many shards the cache has of which this is the history
  abbrev pub shards_in : List (Entry K V) → ℕ
  shards_in (Entry.Opened options sizes ∷ log) = sizes.shards
  shards_in _ = 0

  -- the state in which each of them began
  abbrev pub first_in : List (Entry K V) → CacheState K V
  first_in (Entry.Opened options sizes ∷ log) =
      record (empty_state sizes.weight (hot_target_of sizes.weight options.hot_allocation)
      (ghost_limit_of sizes.items options.ghost_allocation)) { mark_cut = options.mark_cut }
  first_in _ = empty_state 0 0 0

  -- whether an entry is a call of the shard
  abbrev pub is_of : (shard : ℕ) → Entry K V → Bool
  is_of shard (Entry.Opened options sizes) = false
  is_of shard (Entry.Made turn next own call reply) = own == shard

  -- the calls of a shard, in their order
  abbrev pub calls_of : (shard : ℕ) → List (Entry K V) → List (Entry K V)
  calls_of shard log = filter (is_of shard) log

  -- whether an entry is the call of that turn
  abbrev pub is_in : (turn : ℕ) → Entry K V → Bool
  is_in turn (Entry.Opened options sizes) = false
  is_in turn (Entry.Made own next shard call reply) = own == turn

  -- the calls of a turn
  abbrev pub calls_in : (turn : ℕ) → List (Entry K V) → List (Entry K V)
  calls_in turn log = filter (is_in turn) log

  -- the calls of who had this turn first, each in the turn that the one before it gave
  abbrev pub calls_from : (turn : ℕ) → List (Entry K V) → List (Entry K V)
  calls_from turn [] = []
  calls_from turn (Entry.Opened options sizes ∷ log) = calls_from turn log
  calls_from turn (Entry.Made own next shard call reply ∷ log) =
      if own == turn then Entry.Made own next shard call reply ∷ calls_from next log
      else calls_from turn log

  -- and the turn after them
  abbrev pub turn_after : (turn : ℕ) → List (Entry K V) → ℕ
  turn_after turn [] = turn
  turn_after turn (Entry.Opened options sizes ∷ log) = turn_after turn log
  turn_after turn (Entry.Made own next shard call reply ∷ log) =
      if own == turn then turn_after next log else turn_after turn log

  -- the turn of a call, and the caller's next
  abbrev pub turn_of : Entry K V → ℕ
  turn_of (Entry.Opened options sizes) = 0
  turn_of (Entry.Made own next shard call reply) = own

  abbrev pub next_of : Entry K V → ℕ
  next_of (Entry.Opened options sizes) = 0
  next_of (Entry.Made own next shard call reply) = next

  -- the call of an entry
  abbrev pub call_of : Entry K V → Call K V Bool
  call_of (Entry.Opened options sizes) = Call.Counts
  call_of (Entry.Made own next shard call reply) = call

  -- the reply to a replace, by what it answers: a pair that was not admitted comes back
  abbrev pub reply_of_replace : Result (Unit {0}) (K × V) → Reply K V Global
  reply_of_replace (Ok done) = Reply.Done
  reply_of_replace (Err back) = Reply.NotAdmitted back.0 back.1
