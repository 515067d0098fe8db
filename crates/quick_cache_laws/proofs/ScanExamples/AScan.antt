-- A scan of three inserts, and a look-up behind it, over a cache that was full.
use Rattle.std.proofs.Common.{◌≡◌, ℕ, Bool, List, [], ◌∷◌, Some, None, refl, lit<, lit≤, true, false, arith, sym}
use Rattle.std.proofs.lemmas.Bool.{eqb-true}
use Rattle.quick_cache_model.specs.Admission.{ChecksAdmission}
use Rattle.quick_cache_model.specs.CacheState.{CacheState, empty_state, InHot}
use Rattle.quick_cache_model.specs.Eviction.{EvictsToCapacity, AdvancesCold, EvictsVictim}
use Rattle.quick_cache_model.specs.Hooks.{HookCall, BeforeEvict, EvictCold}
use Rattle.quick_cache_model.specs.Lookups.{LooksUp}
use Rattle.quick_cache_model.specs.Writes.{Writes, WritesAdmitted, Insert as insertion}
use Rattle.quick_cache_model.specs.declared.calls.call.Call.{Call}
use Rattle.quick_cache_model.specs.declared.calls.reply.Reply.{Reply}
use Rattle.quick_cache_model.specs.CacheRun.{CacheRun}
use Rattle.quick_cache_model.specs.CacheStep.{CacheStep}
use Rattle.quick_cache_model.specs.Shown.{IsItself}
use Rattle.quick_cache_laws.specs.Scans.{AtEachTurn, IsReadyForScan, IsScanCall, KeepsHot, ScansRings, IsApart, AreFresh}
use Rattle.quick_cache_laws.proofs.ScanExamples.Caches.{value_rules, equal, hot_item, cold_item, untouched, in_order}
use Rattle.quick_cache_laws.proofs.Fresh.{fresh_is_scan}
use Rattle.quick_cache_laws.proofs.Runs.{rings_at_each_turn, run_keeps_hot}

-- the hot ring is at its target, and the cache at its capacity
abbrev pub before : CacheState ℕ ℕ
before = record (empty_state 4 2 2) {
  hot = hot_item 1 1 0 ∷ hot_item 2 1 0 ∷ [];
  cold = cold_item 3 1 0 ∷ cold_item 4 1 0 ∷ [];
}

-- A pair of weight 2 takes both cold items. What `before_evict` leaves of the first weighs nothing,
-- so it stays, outside the rings.
abbrev pub after_two : CacheState ℕ ℕ
after_two = record (empty_state 4 2 2) {
  hot = hot_item 1 1 0 ∷ hot_item 2 1 0 ∷ [];
  cold = cold_item 5 2 0 ∷ [];
  ghosts = 4 ∷ [];
  still = cold_item 3 0 0 ∷ [];
}

-- one of weight 1 takes that pair in its turn
abbrev pub after_one : CacheState ℕ ℕ
after_one = record (empty_state 4 2 2) {
  hot = hot_item 1 1 0 ∷ hot_item 2 1 0 ∷ [];
  cold = cold_item 6 1 0 ∷ [];
  ghosts = 4 ∷ 5 ∷ [];
  still = cold_item 3 0 0 ∷ [];
}

-- then there is room for one more, which takes nothing
abbrev pub after_none : CacheState ℕ ℕ
after_none = record (empty_state 4 2 2) {
  hot = hot_item 1 1 0 ∷ hot_item 2 1 0 ∷ [];
  cold = cold_item 6 1 0 ∷ cold_item 7 1 0 ∷ [];
  ghosts = 4 ∷ 5 ∷ [];
  still = cold_item 3 0 0 ∷ [];
}

-- a hot item is still found
abbrev pub after_look : CacheState ℕ ℕ
after_look = record (empty_state 4 2 2) {
  hot = record (hot_item 1 1 1) { reads = 1 } ∷ hot_item 2 1 0 ∷ [];
  cold = cold_item 6 1 0 ∷ cold_item 7 1 0 ∷ [];
  ghosts = 4 ∷ 5 ∷ [];
  still = cold_item 3 0 0 ∷ [];
  hits = 1;
}

abbrev pub calls : List (Call ℕ ℕ (Unit {0}))
calls = Call.Insert 5 2 ∷ Call.Insert 6 1 ∷ Call.Insert 7 1 ∷ Call.Get 1 ∷ []

abbrev pub replies : List (Reply ℕ ℕ (Unit {0}))
replies = Reply.Done ∷ Reply.Done ∷ Reply.Done ∷ Reply.Value (Some 1) ∷ []

-- no predicate is asked
abbrev pub never : Unit {0} → ℕ → ℕ → Bool
never _ key value = false

abbrev pub hook_calls : List (HookCall ℕ ℕ)
hook_calls = BeforeEvict 3 1 0 ∷ BeforeEvict 4 1 1 ∷ EvictCold 4 1 ∷ BeforeEvict 5 2 2
    ∷ EvictCold 5 2 ∷ []

abbrev pub Run : Type 0
Run = CacheRun value_rules equal IsItself IsItself never before calls replies hook_calls after_look

abbrev pub a_scan : Run
a_scan =
    CacheRun.goes_on before after_two after_look (Call.Insert 5 2) Reply.Done _ _
    (BeforeEvict 3 1 0 ∷ BeforeEvict 4 1 1 ∷ EvictCold 4 1 ∷ []) _
    (CacheStep.inserts 5 2 _ after_two
    (record { ticket = λ none. absurd none; slot = λ _. lit< tt })
    (in_order (λ new. Writes value_rules (equal 5) 5 insertion before 2 _ None new) after_two
    (Writes.admitted [] _ 2 None _ (ChecksAdmission.is_light (lit≤ tt))
    (WritesAdmitted.inserts_new _ _ refl
    (record {
      keys = record {
        items = record { hot = (refl, (refl, tt)); cold = (refl, (refl, tt)); still = tt };
        loading = tt;
      };
      ghosts = tt;
    })
    (EvictsToCapacity.goes_on _ _ _ (BeforeEvict 3 1 0 ∷ [])
    (BeforeEvict 4 1 1 ∷ EvictCold 4 1 ∷ []) (lit< tt)
    (AdvancesCold.evicts _ [] (cold_item 3 1 0) (cold_item 4 1 0 ∷ []) _ _
    (untouched (cold_item 3 1 0 ∷ cold_item 4 1 0 ∷ [])) refl tt refl refl
    (EvictsVictim.stays 0 refl))
    (EvictsToCapacity.goes_on _ _ _ (BeforeEvict 4 1 1 ∷ EvictCold 4 1 ∷ []) [] (lit< tt)
    (AdvancesCold.evicts _ [] (cold_item 4 1 0) [] _ _ (untouched (cold_item 4 1 0 ∷ [])) refl tt
    refl refl (EvictsVictim.leaves 1 (lit< tt)))
    (EvictsToCapacity.has_room _ (lit≤ tt))))))))
    (CacheRun.goes_on after_two after_one after_look (Call.Insert 6 1) Reply.Done _ _
    (BeforeEvict 5 2 2 ∷ EvictCold 5 2 ∷ []) _
    (CacheStep.inserts 6 1 _ after_one
    (record { ticket = λ none. absurd none; slot = λ _. lit< tt })
    (in_order (λ new. Writes value_rules (equal 6) 6 insertion after_two 1 _ None new) after_one
    (Writes.admitted [] _ 1 None _ (ChecksAdmission.is_light (lit≤ tt))
    (WritesAdmitted.inserts_new _ _ refl
    (record {
      keys = record {
        items = record { hot = (refl, (refl, tt)); cold = (refl, tt); still = (refl, tt) };
        loading = tt;
      };
      ghosts = ((λ same. omega (arith, same)), tt);
    })
    (EvictsToCapacity.goes_on _ _ _ (BeforeEvict 5 2 2 ∷ EvictCold 5 2 ∷ []) [] (lit< tt)
    (AdvancesCold.evicts _ [] (cold_item 5 2 0) [] _ _ (untouched (cold_item 5 2 0 ∷ [])) refl tt
    refl refl (EvictsVictim.leaves 2 (lit< tt)))
    (EvictsToCapacity.has_room _ (lit≤ tt)))))))
    (CacheRun.goes_on after_one after_none after_look (Call.Insert 7 1) Reply.Done _ _ [] _
    (CacheStep.inserts 7 1 _ after_none
    (record { ticket = λ none. absurd none; slot = λ _. lit< tt })
    (in_order (λ new. Writes value_rules (equal 7) 7 insertion after_one 1 _ None new) after_none
    (Writes.admitted [] _ 1 None _ (ChecksAdmission.is_light (lit≤ tt))
    (WritesAdmitted.inserts_new _ _ refl
    (record {
      keys = record {
        items = record { hot = (refl, (refl, tt)); cold = (refl, tt); still = (refl, tt) };
        loading = tt;
      };
      ghosts = ((λ same. omega (arith, same)), ((λ same. omega (arith, same)), tt));
    })
    (EvictsToCapacity.has_room _ (lit≤ tt))))))
    (CacheRun.goes_on after_none after_look after_look (Call.Get 1) (Reply.Value (Some 1)) _ _ [] _
    (CacheStep.gets 1 (Some 1) (Some 1) after_look
    (in_order (λ new. LooksUp (equal 1) after_none (λ item. item.value) (Some 1) new) after_look
    (LooksUp.hit InHot [] (hot_item 1 1 0) (hot_item 2 1 0 ∷ [])
    (record { split = refl; passes = refl }))) refl)
    (CacheRun.ends after_look))))

is_ready : IsReadyForScan value_rules before
is_ready = record { within_target = lit≤ tt; cold = ((refl, refl), ((refl, refl), tt)) }

-- no key of the inserts has a hash that is there, and key 1 is not in the cold ring
calls_are_fresh : AreFresh value_rules {F = Unit {0}} before calls
calls_are_fresh =
    AreFresh.inserts 5 2 _ (record {
      keys = record {
        items = record { hot = (refl, (refl, tt)); cold = (refl, (refl, tt)); still = tt };
        loading = tt;
      };
      ghosts = tt;
    }) refl (lit≤ tt) (lit≤ tt) (
      IsApart.inserts 6 1 (λ same. omega (arith, same)),
      (
        IsApart.inserts 7 1 (λ same. omega (arith, same)),
        (IsApart.gets 1 (λ same. omega (arith, same)), tt),
      ),
    )
    (AreFresh.inserts 6 1 _ (record {
      keys = record {
        items = record { hot = (refl, (refl, tt)); cold = (refl, (refl, tt)); still = tt };
        loading = tt;
      };
      ghosts = tt;
    }) refl (lit≤ tt) (lit≤ tt) (
      IsApart.inserts 7 1 (λ same. omega (arith, same)),
      (IsApart.gets 1 (λ same. omega (arith, same)), tt),
    )
    (AreFresh.inserts 7 1 _ (record {
      keys = record {
        items = record { hot = (refl, (refl, tt)); cold = (refl, (refl, tt)); still = tt };
        loading = tt;
      };
      ghosts = tt;
    }) refl (lit≤ tt) (lit≤ tt) (IsApart.gets 1 (λ same. omega (arith, same)), tt)
    (AreFresh.gets 1 [] ((λ same. omega (arith, same)), ((λ same. omega (arith, same)), tt))
    AreFresh.none)))

-- equal numbers are one
same_hash : (one other : ℕ) → equal one other ≡ true → one ≡ other
same_hash one other is = sym (eqb-true other one is)

-- so each call is one of a scan at its turn
is_a_scan : AtEachTurn value_rules equal IsItself IsItself never
    (λ state call reply next. IsScanCall value_rules equal state call) a_scan
is_a_scan =
    fresh_is_scan value_rules equal IsItself IsItself never (λ n none. none) same_hash before calls
    replies hook_calls after_look a_scan is_ready calls_are_fresh

-- both hot items are still there
pub the_hot_items_stay : KeepsHot before after_look
the_hot_items_stay =
    run_keeps_hot value_rules equal IsItself IsItself never (λ n none. none) before calls replies
    hook_calls after_look a_scan is_ready is_a_scan

-- and each insert took the shortest front that made room
pub fronts_left : AtEachTurn value_rules equal IsItself IsItself never
    (λ state call reply next. ScansRings value_rules state call reply next) a_scan
fronts_left =
    rings_at_each_turn value_rules equal IsItself IsItself never (λ n none. none) before calls
    replies hook_calls after_look a_scan is_ready is_a_scan
