-- For a function that makes lists of calls: a run, and one call more.
use Rattle.std.proofs.Common.{◌≡◌, ◌<◌, ◌≤◌, Bool, List, [], ◌∷◌, ◌++◌, length, Vec, vec_len, vec_capacity, refl, sym, subst, ◌∙◌}
use Rattle.std.proofs.Common.{append_assoc, arith}
use Rattle.std.proofs.lemmas.List.{append-nil}
use Rattle.quick_cache_model.specs.CacheState.{CacheState}
use Rattle.quick_cache_model.specs.Hooks.{Rules, Hooks, HookCall, RunsHooks}
use Rattle.quick_cache_model.proofs.HookLaws.{RunsHooks-append}
use Rattle.quick_cache_model.specs.declared.calls.call.Call.{Call}
use Rattle.quick_cache_model.specs.declared.calls.reply.Reply.{Reply}
use Rattle.quick_cache_model.specs.CacheStep.{CacheStep}
use Rattle.quick_cache_model.specs.CacheRun.{CacheRun, IsRun, StopsWhereFull}

-- what is not empty has a first item
pub has_first : {X : Type 0} (xs : List X) → 0 < length xs → (x : X) × (behind : List X)
    × xs ≡ x ∷ behind
has_first [] some = absurd (omega (arith, some))
has_first (x ∷ xs) some = (x, xs, refl)

module _ {K V F M : Type 0} (rules : Rules K V) (equal : K → K → Bool)
    (shows_key : K → K → Type 0) (shows : V → V → Type 0) (answers : F → K → V → Bool) where
  -- a step behind a run makes a longer one
  pub CacheRun-append : {old mid : CacheState K V} {calls : List (Call K V F)}
      {replies : List (Reply K V M)} {hook_calls : List (HookCall K V)}
      (new : CacheState K V) (call : Call K V F) (reply : Reply K V M) (more : List (HookCall K V))
      → CacheRun rules equal shows_key shows answers old calls replies hook_calls mid
      → CacheStep rules equal shows_key shows answers mid call reply more new
      → CacheRun rules equal shows_key shows answers old (calls ++ call ∷ []) (replies ++ reply ∷ [])
      (hook_calls ++ more) new
  CacheRun-append new call reply more (CacheRun.ends state) step =
      subst (λ hook_calls. CacheRun rules equal shows_key shows answers state (call ∷ []) (reply ∷ []) hook_calls new)
      (append-nil more)
      (CacheRun.goes_on state new new call reply [] [] more [] step (CacheRun.ends new))
  CacheRun-append new call reply more
      (CacheRun.goes_on old mid last head told calls replies first rest begins run) step =
      subst (λ hook_calls. CacheRun rules equal shows_key shows answers old (head ∷ calls ++ call ∷ [])
      (told ∷ replies ++ reply ∷ []) hook_calls new)
      (sym (append_assoc first rest more))
      (CacheRun.goes_on old mid new head told (calls ++ call ∷ []) (replies ++ reply ∷ []) first
      (rest ++ more) begins
      (CacheRun-append new call reply more run step))

  pub IsRun-append : {S : Type 0} (hooks : Hooks K V S) (old : CacheState K V) (first : S)
      (calls : List (Call K V F)) (replies : List (Reply K V M))
      (mid : CacheState K V) (between : S)
      → IsRun rules equal shows_key shows answers hooks old first calls replies mid between
      → (call : Call K V F) (reply : Reply K V M) (more : List (HookCall K V)) (new : CacheState K V)
      (last : S)
      → CacheStep rules equal shows_key shows answers mid call reply more new → RunsHooks hooks more between last
      → IsRun rules equal shows_key shows answers hooks old first (calls ++ call ∷ [])
      (replies ++ reply ∷ []) new last
  IsRun-append hooks old first calls replies mid between run call reply more new last step runs =
      record {
        hook_calls = run.hook_calls ++ more;
        steps = CacheRun-append new call reply more run.steps step;
        runs = RunsHooks-append hooks run.hook_calls more first between last run.runs runs;
      }

  -- before the first call
  pub no_calls : {S : Type 0} (hooks : Hooks K V S) (old : CacheState K V) (first : S)
      (replies : List (Reply K V M)) → replies ≡ []
      → IsRun rules equal shows_key shows answers hooks old first [] replies old first
  no_calls hooks old first replies none =
      rw none (record { hook_calls = []; steps = CacheRun.ends old; runs = refl })

  -- no room for the reply to the first call
  pub stops_at_first : {S A : Type 0} (hooks : Hooks K V S) (old : CacheState K V) (first : S)
      (replies : Vec (Reply K V M) A)
      (calls : Vec (Call K V F) A) → replies.items ≡ [] → 0 < length calls.items
      → vec_capacity replies ≤ vec_len replies
      → StopsWhereFull rules equal shows_key shows answers hooks old first calls.items replies calls old first
  stops_at_first hooks old first replies calls none some full =
      let head = has_first calls.items some in
      record {
        made = [];
        unmade = head.0;
        behind = head.1;
        parts = head.2;
        comes_back = head.2;
        runs = no_calls hooks old first replies.items none;
        is_full = full;
      }

-- one of the items that are left is taken
pub took_one : {X : Type 0} (all taken rest less : List X) (x : X) → all ≡ taken ++ rest
    → rest ≡ x ∷ less → all ≡ (taken ++ x ∷ []) ++ less
took_one all taken rest less x split first = split
    ∙ rw first (sym (append_assoc taken (x ∷ []) less))

-- none is left
pub took_all : {X : Type 0} (all taken rest : List X) → all ≡ taken ++ rest → length rest ≡ 0
    → taken ≡ all
took_all all taken [] split none = sym (split ∙ append-nil taken)
took_all all taken (x ∷ xs) split none = absurd (omega (arith, none))
