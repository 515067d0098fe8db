-- What is seen by who made a call more, and looked then.
use Rattle.std.proofs.Common.{◌≡◌, ◌+◌, ℕ, Bool, List, [], ◌∷◌, ◌++◌, length, Option, Some, None, IfSome, Result, Ok, Err, IfOk}
use Rattle.std.proofs.Common.{ap, sym, ◌∙◌, arith, append_assoc, length-append}
use mathlib.Core.List.{IsPrefix}
use Rattle.quick_cache_shard.specs.Steps.{Goes}
use Rattle.quick_cache_model.specs.declared.calls.call.Call.{Call}
use Rattle.quick_cache_model.specs.declared.calls.reply.Reply.{Reply}
use Rattle.quick_cache_history.specs.declared.choice.Choice.{Choice}
use Rattle.quick_cache_history.specs.declared.choice.Entered.{Entered}
use Rattle.quick_cache_history.specs.Loads.{Enters, Gives}
use Rattle.quick_cache_history.specs.Seats.{Caller, HasCall}
use Rattle.quick_cache_history.proofs.CallerLemmas.{Extends-made}

pub prefix-trans : {X : Type 0} (xs ys zs : List X) → IsPrefix xs ys → IsPrefix ys zs → IsPrefix xs zs
prefix-trans xs ys zs p q =
    (p.0 ++ q.0, sym (append_assoc xs p.0 q.0) ∙ (ap (λ w. w ++ q.0) p.1 ∙ q.1))

-- it goes on from what was seen before the call
pub seen-on : {X : Type 0} (old new after before : List X) (entry : X) → IsPrefix old before
    → new ≡ before ++ entry ∷ [] → IsPrefix new after → IsPrefix old after
seen-on old new after before entry p ends q =
    prefix-trans old new after (prefix-trans old before new p (entry ∷ [], sym ends)) q

-- and one call more was made
pub one_more : {X : Type 0} (old new after : List X) (entry : X) → new ≡ old ++ entry ∷ []
    → after ≡ new → length after ≡ length old + 1
one_more old new after entry more same =
    omega (arith, ap length same, ap length more, length-append old (entry ∷ []))

-- what was given is of what was loaded
module _ {K V We B L S : Type 0} (goes : Goes K V We B L S) (is_default : S → Type 0)
    (equal : K → K → Bool) (is_clone : V → V → Type 0) (number : ℕ) (key : K)
    (loads is_own : V → Type 0) (own_is : (own : V) → loads own → is_own own) (old new : Caller K V)
  where
    gives_own : (value : V) → Gives goes is_default equal is_clone number key loads value old new
        → Gives goes is_default equal is_clone number key is_own value old new
    gives_own value (Gives.stood looks) = Gives.stood looks
    gives_own value (Gives.put own loaded clones calls) = Gives.put own (own_is own loaded) clones calls

    pub own-given : {E : Type 0} (answer : Result V E)
        → IfOk answer (λ value. Gives goes is_default equal is_clone number key loads value old new)
        → IfOk answer (λ value. Gives goes is_default equal is_clone number key is_own value old new)
    own-given (Ok value) gives = gives_own value gives
    own-given (Err error) gives = gives

-- what was taken out was taken by a call that stands in the history
pub taken-made : {K V We B L S T : Type 0} (goes : Goes K V We B L S) (is_default : S → Type 0)
    (equal : K → K → Bool) (is_clone : V → V → Type 0) (number : ℕ) (key : K)
    (chooses : Option V → Choice V T → Type 0) (old new : Caller K V) (pair : Option (K × V))
    → Enters goes is_default equal is_clone number key chooses old new (Entered.Removed pair)
    → IfSome pair (λ taken. HasCall (Call.Remove key) (Reply.Pair (Some taken)) new.seen)
taken-made goes is_default equal is_clone number key chooses old new None enters = tt
taken-made goes is_default equal is_clone number key chooses old new (Some taken)
    (Enters.removed found _ chose calls) = Extends-made _ _ _ (Call.Remove key)
    (Reply.Pair (Some taken)) calls.mid new calls.extends
