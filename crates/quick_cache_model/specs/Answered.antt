-- Replies that answer their call.
use Rattle.std.specs.Prelude.{◌≡◌, Bool, true, false, List, ◌∷◌, Result, Ok, Err, Vec}
use Rattle.quick_cache_model.specs.declared.calls.call.Call.{Call}
use Rattle.quick_cache_model.specs.declared.calls.reply.Reply.{Reply}

-- no clone of a value fails
abbrev pub AlwaysClones : {V : Type 0} → (V → Type 0) → Type 0
AlwaysClones {V} is_infallible = (value : V) → is_infallible value

-- whether a reply says that the call was not made, and no more
abbrev pub is_refusal : {K V M : Type 0} → Reply K V M → Bool
is_refusal (Reply.Refused refusal) = true
is_refusal _ = false

module _ {K V F M : Type 0} where
  -- a look-up and a peek were not refused for want of the clone that the reply is to show
  abbrev pub IsAnswered : Call K V F → Reply K V M → Type 0
  IsAnswered (Call.Get key) reply = is_refusal reply ≡ false
  IsAnswered (Call.Peek key) reply = is_refusal reply ≡ false
  IsAnswered _ reply = Unit {0}

  -- so for each of the calls that have a reply
  abbrev pub AreAnswered : List (Call K V F) → List (Reply K V M) → Type 0
  AreAnswered (call ∷ calls) (reply ∷ replies) = IsAnswered call reply × AreAnswered calls replies
  AreAnswered _ _ = Unit {0}

  -- the replies of a run, be they all or those for which there was room
  abbrev pub replies_of : {A : Type 0}
      → Result (Vec (Reply K V M) A) (Vec (Reply K V M) A × Vec (Call K V F) A)
      → List (Reply K V M)
  replies_of (Ok replies) = replies.items
  replies_of (Err back) = back.0.items
