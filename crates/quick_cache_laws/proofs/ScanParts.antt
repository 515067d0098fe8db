-- What the steps of a look-up and of an insert are.
use Rattle.std.proofs.Common.{Bool, List, Option, None}
use Rattle.quick_cache_model.specs.declared.refusal.Refusal.{Refusal}
use Rattle.quick_cache_model.specs.CacheState.{CacheState, UpToOrder}
use Rattle.quick_cache_model.specs.Hooks.{Rules, HookCall}
use Rattle.quick_cache_model.specs.Lookups.{LooksUp}
use Rattle.quick_cache_model.specs.Writes.{Writes, Insert as insertion}
use Rattle.quick_cache_model.specs.declared.calls.call.Call.{Call}
use Rattle.quick_cache_model.specs.declared.calls.reply.Reply.{Reply}
use Rattle.quick_cache_model.specs.CacheStep.{CacheStep}

module _ {K V M : Type 0} (equal : K → K → Bool) where
  -- a look-up, or one that is refused
  pub data GetStep (key : K) (old : CacheState K V) : Reply K V M → CacheState K V → Type 0 where
    looked : (found shown : Option V) (new : CacheState K V)
        → UpToOrder (LooksUp (equal key) old (λ item. item.value) found) new
        → GetStep key old (Reply.Value shown) new
    is_refused : (refusal : Refusal) → GetStep key old (Reply.Refused refusal) old

module _ {K V M : Type 0} (rules : Rules K V) (equal : K → K → Bool) where
  -- an insert, or one that is refused
  pub data InsertStep (key : K) (value : V) (old : CacheState K V)
      : Reply K V M → CacheState K V → Type 0 where
    wrote : (calls : List (HookCall K V)) (new : CacheState K V)
        → UpToOrder (Writes rules (equal key) key insertion old value calls None) new
        → InsertStep key value old Reply.Done new
    is_refused : (refusal : Refusal)
        → InsertStep key value old (Reply.RefusedPair key value refusal) old

module _ {K V F M : Type 0} (rules : Rules K V) (equal : K → K → Bool)
    (shows_key : K → K → Type 0) (shows : V → V → Type 0) (answers : F → K → V → Bool) where
  pub get_of : (key : K) (old : CacheState K V) (reply : Reply K V M) (calls : List (HookCall K V))
      (new : CacheState K V)
      → CacheStep rules equal shows_key shows answers old (Call.Get key) reply calls new
      → GetStep equal key old reply new
  get_of key old _ _ _ (CacheStep.gets _ found shown new looks shows) =
      GetStep.looked found shown new looks
  get_of key old _ _ _ (CacheStep.refuses_look _ _ refusal place before item after look there cause)
      = GetStep.is_refused refusal
  get_of key old _ _ new (CacheStep.finds _ _ given left found shown mid _ is_load _ _ _) =
      elim is_load [ ]
  get_of key old _ _ _ (CacheStep.refuses_found _ _ given left refusal place before item after
      is_load _ _) = elim is_load [ ]
  get_of key old _ _ _ (CacheStep.refuses_load _ _ given left refusal is_load _) = elim is_load [ ]
  get_of key old _ _ _ (CacheStep.refuses_room _ refusal makes_room _) = elim makes_room [ ]

  pub insert_of : (key : K) (value : V) (old : CacheState K V) (reply : Reply K V M)
      (calls : List (HookCall K V)) (new : CacheState K V)
      → CacheStep rules equal shows_key shows answers old (Call.Insert key value) reply calls new
      → InsertStep rules equal key value old reply new
  insert_of key value old _ _ _ (CacheStep.inserts _ _ calls new provided writes) =
      InsertStep.wrote calls new writes
  insert_of key value old _ _ _ (CacheStep.refuses_insert _ _ refusal cause) =
      InsertStep.is_refused refusal
  insert_of key value old _ _ _ (CacheStep.refuses_look _ _ refusal place before item after look
      there cause) = elim look [ ]
  insert_of key value old _ _ new
      (CacheStep.finds _ _ given left found shown mid _ is_load _ _ _) = elim is_load [ ]
  insert_of key value old _ _ _ (CacheStep.refuses_found _ _ given left refusal place before item
      after is_load _ _) = elim is_load [ ]
  insert_of key value old _ _ _ (CacheStep.refuses_load _ _ given left refusal is_load _) =
      elim is_load [ ]
  insert_of key value old _ _ _ (CacheStep.refuses_room _ refusal makes_room _) =
      elim makes_room [ ]
