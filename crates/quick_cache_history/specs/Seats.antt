-- What is seen of a seat.
use Rattle.std.specs.Prelude.{◌≡◌, ℕ, Bool, List, [], ◌∷◌, ◌++◌}
use Rattle.std.specs.List.{Contains}
use Rattle.std.specs.declared.alloc.Global.{Global}
use mathlib.Core.List.{IsPrefix}
use Rattle.quick_cache_model.specs.declared.calls.call.Call.{Call}
use Rattle.quick_cache_model.specs.declared.calls.reply.Reply.{Reply}
use Rattle.quick_cache_history.specs.declared.entry.Entry.{Entry}
use Rattle.quick_cache_history.specs.Histories.{calls_from}

-- Its first turn and its next one, the beginning of the history that it has seen, and the calls
-- that it made.
pub record Caller (K V : Type 0) : Type 0 where
  pub first : ℕ
  pub turn : ℕ
  pub seen : List (Entry K V)
  pub mine : List (Entry K V)

-- The history goes on from what was seen, and ends with this entry, which is one more of the seat's
-- calls. The history has these and no others of it.
pub record Extends {K V : Type 0} (old : Caller K V) (entry : Entry K V) (new : Caller K V) : Type 0
  where
    pub before : List (Entry K V)
    pub longer : IsPrefix old.seen before
    pub ends : new.seen ≡ before ++ entry ∷ []
    pub one_more : new.mine ≡ old.mine ++ entry ∷ []
    pub same : new.first ≡ old.first
    pub all : calls_from new.first new.seen ≡ new.mine

-- a call with this reply stands in the history
pub record HasCall {K V : Type 0} (call : Call K V Bool) (reply : Reply K V Global)
    (log : List (Entry K V)) : Type 0 where
  pub turn : ℕ
  pub next : ℕ
  pub shard : ℕ
  pub stands : Contains log (Entry.Made turn next shard call reply)
