-- A list of calls with fresh hashes is a scan in each run of it, since no call brings a hash but an
-- insert its own.
use Rattle.std.proofs.Common.{◌≡◌, ◌≢◌, ℕ, ◌+◌, ◌≤◌, ◌==◌, Bool, true, false, List, ◌∷◌, refl, sym, subst}
use Rattle.std.specs.List.{AllByRecursion}
use Rattle.std.proofs.lemmas.Bool.{eqb-false}
use Rattle.quick_cache_model.specs.CacheState.{CacheState, Item}
use Rattle.quick_cache_model.specs.Finding.{HasNothing}
use Rattle.quick_cache_model.specs.Hooks.{Rules, HookCall}
use Rattle.quick_cache_model.proofs.EachElement.{all-weaker}
use Rattle.quick_cache_model.specs.declared.calls.call.Call.{Call}
use Rattle.quick_cache_model.specs.declared.calls.reply.Reply.{Reply}
use Rattle.quick_cache_model.specs.CacheRun.{CacheRun}
use Rattle.quick_cache_model.specs.CacheStep.{CacheStep}
use Rattle.quick_cache_laws.specs.Scans.{AtEachTurn, IsReadyForScan, IsScanCall, HasNoHash, IsApart, AreFresh}
use Rattle.quick_cache_laws.proofs.ScanParts.{GetStep, InsertStep, get_of, insert_of}
use Rattle.quick_cache_laws.proofs.Turns.{written, front_of, turn}
use Rattle.quick_cache_laws.proofs.Hashes.{Fails, BringsNo, brings_both, brings_in_order, brings_inserted, brings_looked}

module _ {K V : Type 0} (rules : Rules K V) where
  -- what is fresh stays so, where no hash comes
  fresh_after_get : {F : Type 0} (old new : CacheState K V)
      → BringsNo rules (λ hash. Unit {0}) old new
      → (calls : List (Call K V F)) → AreFresh rules old calls → AreFresh rules new calls
  fresh_after_get old new brings _ AreFresh.none = AreFresh.none
  fresh_after_get old new brings _ (AreFresh.gets key calls absent fresh) =
      AreFresh.gets key calls (brings.cold (rules.hash key) tt absent)
      (fresh_after_get old new brings calls fresh)
  fresh_after_get old new brings _
      (AreFresh.inserts key value calls nothing unpinned light fits apart fresh) =
      AreFresh.inserts key value calls (brings.nothing (rules.hash key) tt nothing) unpinned
      (subst (λ n. rules.weight key value ≤ n) (sym brings.target) light)
      (subst (λ n. n + rules.weight key value ≤ new.capacity) (sym brings.target)
      (subst (λ n. old.hot_target + rules.weight key value ≤ n) (sym brings.capacity) fits))
      apart (fresh_after_get old new brings calls fresh)

  apart_get : {F : Type 0} (hash : ℕ) (key : K) → IsApart rules {F = F} hash (Call.Get key)
      → rules.hash key ≢ hash
  apart_get hash key (IsApart.gets _ apart) = apart

  apart_insert : {F : Type 0} (hash : ℕ) (key : K) (value : V)
      → IsApart rules {F = F} hash (Call.Insert key value) → rules.hash key ≢ hash
  apart_insert hash key value (IsApart.inserts _ _ apart) = apart

  -- and where a hash comes that it is apart from
  fresh_after_insert : {F : Type 0} (hash : ℕ) (old new : CacheState K V)
      → BringsNo rules (λ other. other ≢ hash) old new → (calls : List (Call K V F))
      → AreFresh rules old calls → AllByRecursion (IsApart rules hash) calls
      → AreFresh rules new calls
  fresh_after_insert hash old new brings _ AreFresh.none apart = AreFresh.none
  fresh_after_insert hash old new brings _ (AreFresh.gets key calls absent fresh) apart =
      AreFresh.gets key calls (brings.cold (rules.hash key) (apart_get hash key apart.0) absent)
      (fresh_after_insert hash old new brings calls fresh apart.1)
  fresh_after_insert hash old new brings _
      (AreFresh.inserts key value calls nothing unpinned light fits later fresh) apart =
      AreFresh.inserts key value calls
      (brings.nothing (rules.hash key) (apart_insert hash key value apart.0) nothing) unpinned
      (subst (λ n. rules.weight key value ≤ n) (sym brings.target) light)
      (subst (λ n. n + rules.weight key value ≤ new.capacity) (sym brings.target)
      (subst (λ n. old.hot_target + rules.weight key value ≤ n) (sym brings.capacity) fits))
      later (fresh_after_insert hash old new brings calls fresh apart.1)

  module _ (equal : K → K → Bool)
      (same_hash : (one other : K) → equal one other ≡ true → rules.hash one ≡ rules.hash other)
    where
      -- keys of different hashes are not equal
      unequal : (one other : K) → rules.hash other ≢ rules.hash one → equal one other ≡ false
      unequal one other apart = go (equal one other) refl
        where
          go : (b : Bool) → equal one other ≡ b → b ≡ false
          go true is = absurd (apart (sym (same_hash one other is)))
          go false is = refl

      -- where nothing has the hash of a key, nothing is found under it
      nothing_found : (key : K) (state : CacheState K V) → HasNoHash rules (rules.hash key) state
          → HasNothing (equal key) (rules.hash key) state
      nothing_found key state none = record {
        keys = record {
          items = record {
            hot = absent state.hot none.keys.items.hot;
            cold = absent state.cold none.keys.items.cold;
            still = absent state.still none.keys.items.still;
          };
          loading = all-weaker (λ entry. (rules.hash entry.key == rules.hash key) ≡ false)
              (λ entry. equal key entry.key ≡ false)
              (λ entry fails.
              unequal key entry.key (eqb-false (rules.hash entry.key) (rules.hash key) fails))
              state.loading none.keys.loading;
        };
        ghosts = none.ghosts;
      }
        where
          absent : (items : List (Item K V)) → AllByRecursion (Fails rules (rules.hash key)) items
              → AllByRecursion (λ item. equal key item.key ≡ false) items
          absent items fail = all-weaker (Fails rules (rules.hash key))
              (λ item. equal key item.key ≡ false)
              (λ item fails.
              unequal key item.key (eqb-false (rules.hash item.key) (rules.hash key) fails)) items
              fail

module _ {K V F M : Type 0} (rules : Rules K V) (equal : K → K → Bool)
    (shows_key : K → K → Type 0) (shows : V → V → Type 0) (answers : F → K → V → Bool)
    (no_touch : (n : ℕ) → rules.may_count n → n ≡ 0)
    (same_hash : (one other : K) → equal one other ≡ true → rules.hash one ≡ rules.hash other)
  where
    -- the first call is one of a scan, and the others are fresh behind it
    next : (old : CacheState K V) (call : Call K V F) (calls : List (Call K V F))
        (reply : Reply K V M) (hook_calls : List (HookCall K V)) (new : CacheState K V)
        → CacheStep rules equal shows_key shows answers old call reply hook_calls new
        → IsReadyForScan rules old → AreFresh rules old (call ∷ calls)
        → IsScanCall rules equal old call × AreFresh rules new calls
    next old _ _ reply hook_calls new step ready (AreFresh.gets key calls absent fresh) = (
      is_call,
      go reply new (get_of rules equal shows_key shows answers key old reply hook_calls
          new step),
    )
      where
        is_call : IsScanCall rules {F = F} equal old (Call.Get key)
        is_call = IsScanCall.gets key (all-weaker (λ item. rules.hash item.key ≢ rules.hash key)
            (λ item. equal key item.key ≡ false)
            (λ item apart. unequal rules equal same_hash key item.key apart) old.cold absent)

        go : (reply : Reply K V M) (new : CacheState K V) → GetStep equal key old reply new
            → AreFresh rules new calls
        go _ _ (GetStep.looked found shown new looks) =
            fresh_after_get rules old new
            (brings_both rules (λ hash. Unit {0}) old looks.ordered new
            (brings_looked rules (equal key) (λ hash. Unit {0}) old found looks.ordered looks.holds)
            (brings_in_order rules (λ hash. Unit {0}) looks.ordered new looks.same)) calls fresh
        go _ _ (GetStep.is_refused refusal) = fresh
    next old _ _ reply hook_calls new step ready
        (AreFresh.inserts key value calls nothing unpinned light fits apart fresh) = (
          is_call,
          go reply new (insert_of rules equal shows_key shows answers key value old reply
              hook_calls new step),
        )
      where
        found : HasNothing (equal key) (rules.hash key) old
        found = nothing_found rules equal same_hash key old nothing

        is_call : IsScanCall rules {F = F} equal old (Call.Insert key value)
        is_call = IsScanCall.inserts key value found unpinned light fits

        go : (reply : Reply K V M) (new : CacheState K V)
            → InsertStep rules equal key value old reply new → AreFresh rules new calls
        go _ _ (InsertStep.wrote hook_calls new writes) =
            let is = written rules (equal key) key value old hook_calls writes.ordered writes.holds
            found light in
            let takes = front_of rules (equal key) key value old writes.ordered no_touch is ready
            fits in
            fresh_after_insert rules (rules.hash key) old new
            (brings_both rules (λ hash. hash ≢ rules.hash key) old writes.ordered new
            (brings_inserted rules (equal key) key value old writes.ordered is takes)
            (brings_in_order rules (λ hash. hash ≢ rules.hash key) writes.ordered new writes.same))
            calls fresh apart
        go _ _ (InsertStep.is_refused refusal) = fresh

    -- so each call is one of a scan at its turn
    pub fresh_is_scan : (old : CacheState K V) (calls : List (Call K V F))
        (replies : List (Reply K V M)) (hook_calls : List (HookCall K V)) (new : CacheState K V)
        (run : CacheRun rules equal shows_key shows answers old calls replies hook_calls new)
        → IsReadyForScan rules old → AreFresh rules old calls
        → AtEachTurn rules equal shows_key shows answers
        (λ state call reply next. IsScanCall rules equal state call) run
    fresh_is_scan _ _ _ _ _ (CacheRun.ends state) ready fresh = tt
    fresh_is_scan _ _ _ _ _
        (CacheRun.goes_on old mid new call reply calls replies first rest step run) ready fresh =
        let one = next old call calls reply first mid step ready fresh in
        let after = turn rules equal shows_key shows answers no_touch old call reply first mid step
        one.0 ready in
        (one.0, fresh_is_scan mid calls replies rest new run after.1 one.1)
