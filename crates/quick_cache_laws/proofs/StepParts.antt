-- What a step of a call tells, call by call.
use Rattle.std.proofs.Common.{◌≡◌, Bool, List, [], Option, None, refl}
use Rattle.quick_cache_model.specs.declared.refusal.Refusal.{Refusal}
use Rattle.quick_cache_model.specs.CacheState.{CacheState, UpToOrder}
use Rattle.quick_cache_model.specs.Hooks.{Rules, HookCall}
use Rattle.quick_cache_model.specs.Refusals.{MayRefuse, needs_of_clone}
use Rattle.quick_cache_model.specs.Removal.{Removes, Retains}
use Rattle.quick_cache_model.specs.Writes.{Strategy, Writes, Insert as insertion}
use Rattle.quick_cache_model.specs.declared.calls.call.Call.{Call}
use Rattle.quick_cache_model.specs.declared.calls.reply.Reply.{Reply}
use Rattle.quick_cache_model.specs.CacheStep.{CacheStep}
use Rattle.quick_cache_model.specs.Kinds.{replacement}
use Rattle.quick_cache_model.specs.Loads.{Loads}
use Rattle.quick_cache_laws.specs.CallLaws.{IsWrite, IsFill, IsRefusable}

module _ {K V : Type 0} (state : CacheState K V) where
  -- a clone is refused for want of memory alone
  pub clone_refused : (refusal : Refusal) → MayRefuse needs_of_clone state refusal
      → refusal ≡ Refusal.Memory
  clone_refused _ (MayRefuse.tickets_spent needs spent) = absurd needs
  clone_refused _ (MayRefuse.slots_full tickets needs full) = absurd needs
  clone_refused _ (MayRefuse.memory_refused provided needs) = refl

module _ {K V F M : Type 0} (rules : Rules K V) (equal : K → K → Bool)
    (shows_key : K → K → Type 0) (shows : V → V → Type 0) (answers : F → K → V → Bool)
    (old : CacheState K V) where
  -- the step of a call, with its reply
  abbrev Step : Call K V F → Reply K V M → List (HookCall K V) → CacheState K V → Type 0
  Step = CacheStep rules equal shows_key shows answers old

  -- a write that was done, by some strategy
  pub write_of : (key : K) (value : V) (call : Call K V F) (calls : List (HookCall K V))
      (new : CacheState K V) → IsWrite key value call → Step call Reply.Done calls new
      → (strategy : Strategy)
      × UpToOrder (Writes rules (equal key) key strategy old value calls None) new
  write_of key value _ _ _ IsWrite.insert
      (CacheStep.inserts _ _ calls new provided writes) = (insertion, writes)
  write_of key value _ _ _ (IsWrite.replace soft)
      (CacheStep.replaces _ _ _ calls new writes) = (replacement soft, writes)

  pub insert_of : (key : K) (value : V) (calls : List (HookCall K V)) (new : CacheState K V)
      → Step (Call.Insert key value) Reply.Done calls new
      → UpToOrder (Writes rules (equal key) key insertion old value calls None) new
  insert_of key value _ _ (CacheStep.inserts _ _ calls new provided writes) = writes

  -- a fill
  pub fill_of : (key : K) (value : V) (call : Call K V F) (reply : Reply K V M)
      (calls : List (HookCall K V)) (new : CacheState K V) → IsFill key value call reply
      → Step call reply calls new → Loads rules (equal key) (rules.hash key) old value calls new
  fill_of key value _ _ _ _ (IsFill.loaded there)
      (CacheStep.loads _ _ _ calls new loads tells) = loads
  fill_of key value _ _ _ _ IsFill.filled (CacheStep.fills _ _ calls new loads) = loads
  fill_of key value _ _ _ _ (IsFill.filled_mut left)
      (CacheStep.fills_mut _ _ _ calls new loads) = loads

  -- a removal
  pub remove_of : (key : K) (reply : Reply K V M) (calls : List (HookCall K V))
      (new : CacheState K V) → Step (Call.Remove key) reply calls new
      → (answer : Option (K × V)) × (reply ≡ Reply.Pair answer)
      × UpToOrder (Removes (equal key) old (rules.hash key) answer) new
  remove_of key _ _ _ (CacheStep.removes _ answer new removes) = (answer, refl, removes)
  remove_of key _ _ _ (CacheStep.refuses_look _ _ refusal place before item after look _ _) =
      elim look [ ]
  remove_of key _ _ new (CacheStep.finds _ _ given left found shown mid _ is_load _ _ _) =
      elim is_load [ ]
  remove_of key _ _ _ (CacheStep.refuses_found _ _ given left refusal place before item after
      is_load _ _) = elim is_load [ ]
  remove_of key _ _ _ (CacheStep.refuses_load _ _ given left refusal is_load _) = elim is_load [ ]
  remove_of key _ _ _ (CacheStep.refuses_room _ refusal makes_room _) = elim makes_room [ ]

  -- a retain
  pub retain_of : (keep : F) (reply : Reply K V M) (calls : List (HookCall K V))
      (new : CacheState K V) → Step (Call.Retain keep) reply calls new
      → UpToOrder (Retains (answers keep) old) new
  retain_of keep _ _ _ (CacheStep.retains _ new retains) = retains
  retain_of keep _ _ _ (CacheStep.refuses_look _ key refusal place before item after look _ _) =
      elim look [ ]
  retain_of keep _ _ new (CacheStep.finds _ key given left found shown mid _ is_load _ _ _) =
      elim is_load [ ]
  retain_of keep _ _ _ (CacheStep.refuses_found _ key given left refusal place before item after
      is_load _ _) = elim is_load [ ]
  retain_of keep _ _ _ (CacheStep.refuses_load _ key given left refusal is_load _) =
      elim is_load [ ]
  retain_of keep _ _ _ (CacheStep.refuses_room _ refusal makes_room _) = elim makes_room [ ]

  -- a refusal
  pub refusal_of : (call : Call K V F) (refusal : Refusal) (calls : List (HookCall K V))
      (new : CacheState K V) → Step call (Reply.Refused refusal) calls new
      → IsRefusable refusal call × (new ≡ old) × (calls ≡ [])
  refusal_of _ _ _ _ (CacheStep.refuses_look call key refusal place before item after look there
      cause) = (IsRefusable.look call key look (clone_refused old refusal cause), refl, refl)
  refusal_of _ _ _ _ (CacheStep.refuses_found call key given left refusal place before item after
      is_load there cause) = (IsRefusable.load call key given left is_load, refl, refl)
  refusal_of _ _ _ _ (CacheStep.refuses_load call key given left refusal is_load cause) =
      (IsRefusable.load call key given left is_load, refl, refl)
  refusal_of _ _ _ _ (CacheStep.refuses_room call refusal makes_room cause) =
      (IsRefusable.room call makes_room (clone_refused old refusal cause), refl, refl)

  pub refused_insert_of : (call : Call K V F) (key : K) (value : V) (refusal : Refusal)
      (calls : List (HookCall K V)) (new : CacheState K V)
      → Step call (Reply.RefusedPair key value refusal) calls new
      → (call ≡ Call.Insert key value) × (new ≡ old) × (calls ≡ [])
  refused_insert_of _ _ _ _ _ _ (CacheStep.refuses_insert key value refusal cause) =
      (refl, refl, refl)
