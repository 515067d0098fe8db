-- Scans: calls that ask for keys once, as a walk through a long table does. What such a call is,
-- and what it does to the rings.
use Rattle.std.specs.Prelude.{◌≡◌, ◌≢◌, ◌==◌, ℕ, ◌+◌, ◌<◌, ◌≤◌, Bool, false, List, [], ◌∷◌, ◌++◌, map}
use Rattle.std.specs.List.{AllByRecursion}
use Rattle.quick_cache_model.specs.declared.queue.Queue.{Queue}
use Rattle.quick_cache_model.specs.declared.refusal.Refusal.{Refusal}
use Rattle.quick_cache_model.specs.CacheState.{CacheState, Item, entered, hot_weight, total_weight}
use Rattle.quick_cache_model.specs.Eviction.{pinned}
use Rattle.quick_cache_model.specs.Finding.{HasNothing}
use Rattle.quick_cache_model.specs.Hooks.{Rules, HookCall}
use Rattle.quick_cache_model.specs.Writes.{new_item, queue_for}
use Rattle.quick_cache_model.specs.declared.calls.call.Call.{Call}
use Rattle.quick_cache_model.specs.declared.calls.reply.Reply.{Reply}
use Rattle.quick_cache_model.specs.CacheRun.{CacheRun}

module _ {K V F M : Type 0} (rules : Rules K V) (equal : K → K → Bool)
    (shows_key : K → K → Type 0) (shows : V → V → Type 0) (answers : F → K → V → Bool) where
  -- At each turn of a run this holds of the state before the call, of the call, of its reply, and
  -- of the state after it.
  abbrev pub AtEachTurn : (CacheState K V → Call K V F → Reply K V M → CacheState K V → Type 0)
      → {old : CacheState K V} {calls : List (Call K V F)} {replies : List (Reply K V M)}
      {hook_calls : List (HookCall K V)} {new : CacheState K V}
      → CacheRun rules equal shows_key shows answers old calls replies hook_calls new → Type 0
  AtEachTurn P (CacheRun.ends state) = Unit {0}
  AtEachTurn P (CacheRun.goes_on old mid new call reply calls replies first rest step run) =
      P old call reply mid × AtEachTurn P run

module _ {K V : Type 0} (rules : Rules K V) where
  -- a cold advance that meets the item evicts it
  abbrev pub IsEvictable : Item K V → Type 0
  IsEvictable item = (item.mark ≡ 0) × (pinned rules item ≡ false)

  -- What a scan begins with: the hot ring is within its target, and no item of the cold ring is
  -- marked or pinned. Marks and pins of hot items do not matter.
  pub record IsReadyForScan (state : CacheState K V) : Type 0 where
    pub within_target : hot_weight state ≤ state.hot_target
    pub cold : AllByRecursion IsEvictable state.cold

  -- A call of a scan, by the state that it meets: a look-up of a key that is not in the cold ring,
  -- or an insert under whose key nothing is found, of a pair that is not pinned, weighs at most the
  -- hot target, and has room beside a hot ring that is at its target.
  pub data IsScanCall {F : Type 0} (equal : K → K → Bool) (state : CacheState K V)
      : Call K V F → Type 0 where
    gets : (key : K) → AllByRecursion (λ item. equal key item.key ≡ false) state.cold
        → IsScanCall equal state (Call.Get key)
    inserts : (key : K) (value : V) → HasNothing (equal key) (rules.hash key) state
        → rules.pinned key value ≡ false
        → rules.weight key value ≤ state.hot_target
        → state.hot_target + rules.weight key value ≤ state.capacity
        → IsScanCall equal state (Call.Insert key value)

module _ {K V : Type 0} where
  -- the item, but for how often it was used
  abbrev pub unused : Item K V → Item K V
  unused item = record item { mark = 0; reads = 0 }

  -- No item left the hot ring: those that were in it stand first, in their order, and are the same
  -- but for how often they were used. Others may have come behind them.
  pub record KeepsHot (old new : CacheState K V) : Type 0 where
    pub others : List (Item K V)
    pub kept : map unused new.hot ≡ map unused old.hot ++ others

  -- The cold ring is parted into a front and the rest. With the rest alone there is room for what
  -- is needed, and as long as one item of the front is still there, there is none.
  pub record IsShortestFront (need : ℕ) (state : CacheState K V)
      (front rest : List (Item K V)) : Type 0 where
    pub parts : state.cold ≡ front ++ rest
    pub makes_room : total_weight (record state { cold = rest }) + need ≤ state.capacity
    pub shortest : (left : List (Item K V)) (item : Item K V) (more : List (Item K V))
        → front ≡ left ++ item ∷ more
        → state.capacity < total_weight (record state { cold = item ∷ more ++ rest }) + need

module _ {K V : Type 0} (rules : Rules K V) where
  -- the state with this rest of its cold ring, once the pair was put last in its place: hot if it
  -- has room within the target, and unmarked
  abbrev pub joined_behind : K → V → CacheState K V → (rest : List (Item K V)) → CacheState K V
  joined_behind key value old rest =
      entered (new_item rules key value (queue_for rules old key value Queue.Cold) 0)
      (record old { cold = rest })

  -- The shortest front that makes room for the pair left the cold ring, and then the pair was put
  -- last in its place. Nothing else came to a ring or left it.
  pub record TakesShortestFront (key : K) (value : V) (old new : CacheState K V) : Type 0 where
    pub front : List (Item K V)
    pub rest : List (Item K V)
    pub is_shortest : IsShortestFront (rules.weight key value) old front rest
    pub hot : new.hot ≡ (joined_behind key value old rest).hot
    pub cold : new.cold ≡ (joined_behind key value old rest).cold

  -- What a call of a scan does to the rings. A look-up takes out nothing, an insert the shortest
  -- front that makes room, and a refused insert changes nothing.
  pub data ScansRings {F M : Type 0} (old : CacheState K V) : Call K V F → Reply K V M
      → CacheState K V → Type 0 where
    gets : (key : K) (reply : Reply K V M) (new : CacheState K V)
        → map unused new.hot ≡ map unused old.hot → new.cold ≡ old.cold
        → ScansRings old (Call.Get key) reply new
    inserts : (key : K) (value : V) (new : CacheState K V)
        → TakesShortestFront key value old new
        → ScansRings old (Call.Insert key value) Reply.Done new
    refuses : (key : K) (value : V) (refusal : Refusal)
        → ScansRings old (Call.Insert key value) (Reply.RefusedPair key value refusal) old

module _ {K V : Type 0} (rules : Rules K V) where
  -- nothing in the state has the hash: no item, no placeholder and no ghost
  abbrev pub HasNoHash : ℕ → CacheState K V → Type 0
  HasNoHash hash state = HasNothing (λ key. rules.hash key == hash) hash state

  -- a look-up or an insert of a key that has another hash
  pub data IsApart {F : Type 0} (hash : ℕ) : Call K V F → Type 0 where
    gets : (key : K) → rules.hash key ≢ hash → IsApart hash (Call.Get key)
    inserts : (key : K) (value : V) → rules.hash key ≢ hash → IsApart hash (Call.Insert key value)

  -- What makes a list of calls a scan, by the state that it begins with alone: look-ups of keys
  -- whose hashes no item of the cold ring has, and inserts of keys whose hashes nothing has, each
  -- hash once and not looked up later. The pairs are as those of a scan.
  pub data AreFresh {F : Type 0} (state : CacheState K V) : List (Call K V F) → Type 0 where
    none : AreFresh state []
    gets : (key : K) (calls : List (Call K V F))
        → AllByRecursion (λ item. rules.hash item.key ≢ rules.hash key) state.cold
        → AreFresh state calls → AreFresh state (Call.Get key ∷ calls)
    inserts : (key : K) (value : V) (calls : List (Call K V F))
        → HasNoHash (rules.hash key) state → rules.pinned key value ≡ false
        → rules.weight key value ≤ state.hot_target
        → state.hot_target + rules.weight key value ≤ state.capacity
        → AllByRecursion (IsApart (rules.hash key)) calls
        → AreFresh state calls → AreFresh state (Call.Insert key value ∷ calls)
