-- Lists of calls that are made one after another.
use Rattle.std.proofs.Common.{◌≡◌, ℕ, ◌+◌, ◌-◌, ◌≤◌, List, [], ◌∷◌, ◌++◌, length, Option, Some, None, arith, ◌∙◌, subst}
use Rattle.std.specs.List.{All}
use Rattle.std.proofs.lemmas.List.Elements.{All-head, All-tail}
use Rattle.quick_cache_model.specs.declared.calls.call.Call.{Call}
use Rattle.quick_cache_model.specs.declared.calls.reply.Reply.{Reply}
use Rattle.quick_cache_model.specs.declared.refusal.Refusal.{Refusal}
use Rattle.quick_cache_model.specs.Answered.{IsAnswered, AreAnswered}
use Rattle.quick_cache_runs.specs.Room.{AreInRoom, NeedsRoom, entry_refusal}

-- where there was less room, what found no room in more of it found none
NeedsRoom-less : (less more : ℕ) (why : Option Refusal) → less ≤ more → NeedsRoom more why
    → NeedsRoom less why
NeedsRoom-less less more None at_most needs = tt
NeedsRoom-less less more (Some refusal) at_most needs =
    λ memory. omega (arith, at_most, needs memory)

module _ {K V F M : Type 0} where
  -- one reply more answers its call
  pub AreAnswered-push : (calls : List (Call K V F)) (replies : List (Reply K V M))
      (call : Call K V F) (reply : Reply K V M) → length calls ≡ length replies
      → AreAnswered calls replies → IsAnswered call reply
      → AreAnswered (calls ++ call ∷ []) (replies ++ reply ∷ [])
  AreAnswered-push [] [] call reply same are is = (is, tt)
  AreAnswered-push [] (y ∷ ys) call reply same are is = absurd (omega (arith, same))
  AreAnswered-push (x ∷ xs) [] call reply same are is = absurd (omega (arith, same))
  AreAnswered-push (x ∷ xs) (y ∷ ys) call reply same are is =
      (are.0, AreAnswered-push xs ys call reply (omega (arith, same)) are.1 is)

  -- no reply answers as yet
  pub AreAnswered-none : (calls : List (Call K V F)) (replies : List (Reply K V M)) → replies ≡ []
      → AreAnswered calls replies
  AreAnswered-none [] replies none = tt
  AreAnswered-none (x ∷ xs) [] none = tt
  AreAnswered-none (x ∷ xs) (y ∷ ys) none = absurd cc

  -- one call more, which had the room that was left or more
  pub AreInRoom-push : (room left : ℕ) (calls : List (Call K V F)) (replies : List (Reply K V M))
      (call : Call K V F) (reply : Reply K V M) → length calls ≡ length replies
      → room ≤ left + length calls → AreInRoom room calls replies
      → NeedsRoom left (entry_refusal call reply)
      → AreInRoom room (calls ++ call ∷ []) (replies ++ reply ∷ [])
  AreInRoom-push room left [] [] call reply same had are is =
      (NeedsRoom-less room left (entry_refusal call reply) (omega (arith, had)) is, tt)
  AreInRoom-push room left [] (y ∷ ys) call reply same had are is = absurd (omega (arith, same))
  AreInRoom-push room left (x ∷ xs) [] call reply same had are is = absurd (omega (arith, same))
  AreInRoom-push room left (x ∷ xs) (y ∷ ys) call reply same had are is = (
    are.0,
    AreInRoom-push (room - 1) left xs ys call reply (omega (arith, same))
        (omega (arith, had)) are.1 is,
  )

  -- no reply was refused as yet
  pub AreInRoom-none : (room : ℕ) (calls : List (Call K V F)) (replies : List (Reply K V M))
      → replies ≡ [] → AreInRoom room calls replies
  AreInRoom-none room [] replies none = tt
  AreInRoom-none room (x ∷ xs) [] none = tt
  AreInRoom-none room (x ∷ xs) (y ∷ ys) none = absurd cc

module _ {X : Type 0} (P : X → Type 0) where
  -- what holds of all holds of those behind
  All-behind : (xs ys : List X) → All P (xs ++ ys) → All P ys
  All-behind [] ys holds = holds
  All-behind (x ∷ xs) ys holds = All-behind xs ys (All-tail P x (xs ++ ys) holds)

  -- and of the next one
  pub All-next : (all taken left less : List X) (x : X) → all ≡ taken ++ left → left ≡ x ∷ less
      → All P all → P x
  All-next all taken left less x split first holds =
      All-head P x less (All-behind taken (x ∷ less)
      (subst (All P) (split ∙ (λ i. taken ++ first i)) holds))
