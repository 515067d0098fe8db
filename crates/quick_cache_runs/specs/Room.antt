-- What a run asks memory for.
use Rattle.std.specs.Prelude.{◌≡◌, ℕ, ◌-◌, List, ◌∷◌, Option, Some, None, IfSome}
use Rattle.quick_cache_model.specs.declared.calls.call.Call.{Call}
use Rattle.quick_cache_model.specs.declared.calls.reply.Reply.{Reply}
use Rattle.quick_cache_model.specs.declared.refusal.Refusal.{Refusal}

-- what was refused for want of memory found no room for an entry
abbrev pub NeedsRoom : (room : ℕ) → Option Refusal → Type 0
NeedsRoom room why = IfSome why (λ refusal. refusal ≡ Refusal.Memory → room ≡ 0)

-- why a call was refused, if it was
abbrev pub refusal_of : {K V M : Type 0} → Reply K V M → Option Refusal
refusal_of (Reply.Refused refusal) = Some refusal
refusal_of (Reply.RefusedPair key value refusal) = Some refusal
refusal_of _ = None

module _ {K V F M : Type 0} where
  -- the same, of a call that takes an entry in
  abbrev pub entry_refusal : Call K V F → Reply K V M → Option Refusal
  entry_refusal (Call.Insert key value) reply = refusal_of reply
  entry_refusal (Call.Load key given) reply = refusal_of reply
  entry_refusal (Call.LoadMut key given left) reply = refusal_of reply
  entry_refusal (Call.Guarded key given) reply = refusal_of reply
  entry_refusal (Call.GuardedMut key given left) reply = refusal_of reply
  entry_refusal _ reply = None

  -- Calls that take entries in were refused for want of memory only where those before them took
  -- all the room, each for one entry at most.
  abbrev pub AreInRoom : (room : ℕ) → List (Call K V F) → List (Reply K V M) → Type 0
  AreInRoom room (call ∷ calls) (reply ∷ replies) =
      NeedsRoom room (entry_refusal call reply) × AreInRoom (room - 1) calls replies
  AreInRoom room _ _ = Unit {0}
