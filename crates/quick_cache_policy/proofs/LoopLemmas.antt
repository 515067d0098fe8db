-- Advances one after another, and the hook calls that they make.
use Rattle.std.proofs.Common.{List, [], ◌++◌, sym, subst, refl, append_assoc}
use Rattle.std.proofs.lemmas.List.{append-nil}
use Rattle.quick_cache_model.specs.CacheState.{CacheState, UpToOrder}
use Rattle.quick_cache_model.specs.Hooks.{HookCall, Hooks, Calls}
use Rattle.quick_cache_model.proofs.HookLaws.{RunsHooks-append}
use Rattle.quick_cache_model.specs.Fates.{residents}
use Rattle.quick_cache_model.proofs.Leads.{Leads-same, Tells-append}
use Rattle.quick_cache_policy.specs.Advances.{AreEvictions, Evicting}

-- the calls of evictions, and more of them
pub AreEvictions-append : {K V : Type 0} (first rest : List (HookCall K V)) → AreEvictions first
    → AreEvictions rest → AreEvictions (first ++ rest)
AreEvictions-append _ rest AreEvictions.none more = more
AreEvictions-append _ rest (AreEvictions.stays key value left calls are) more =
    AreEvictions.stays key value left (calls ++ rest) (AreEvictions-append calls rest are more)
AreEvictions-append _ rest (AreEvictions.leaves queue key value left calls are) more =
    AreEvictions.leaves queue key value left (calls ++ rest)
    (AreEvictions-append calls rest are more)

module _ {K V S : Type 0} (hooks : Hooks K V S) where
  -- no calls
  pub Calls-none : (P : List (HookCall K V) → Type 0) (state : S) → P [] → Calls hooks P state state
  Calls-none P state holds = record { calls = []; holds = holds; runs = refl }

  -- one fact of the calls in place of another
  pub Calls-map : (P Q : List (HookCall K V) → Type 0) (first last : S)
      → ((calls : List (HookCall K V)) → P calls → Q calls) → Calls hooks P first last
      → Calls hooks Q first last
  Calls-map P Q first last step made =
      record { calls = made.calls; holds = step made.calls made.holds; runs = made.runs }

  -- some calls, and then some
  pub Calls-then : (P Q R : List (HookCall K V) → Type 0) (first mid last : S)
      → ((calls more : List (HookCall K V)) → P calls → Q more → R (calls ++ more))
      → Calls hooks P first mid → Calls hooks Q mid last → Calls hooks R first last
  Calls-then P Q R first mid last join made more = record {
    calls = made.calls ++ more.calls;
    holds = join made.calls more.calls made.holds more.holds;
    runs = RunsHooks-append hooks made.calls more.calls first mid last made.runs more.runs;
  }

-- A loop of steps, each of which is told of by hook calls.
module _ {K V S : Type 0} (hooks : Hooks K V S) (steady : Type 0)
    (Loop : CacheState K V → List (HookCall K V) → CacheState K V → Type 0) where
  -- after these calls the loop goes on from another state
  abbrev pub GoesOn : CacheState K V → CacheState K V → List (HookCall K V) → Type 0
  GoesOn old mid calls = (rest : List (HookCall K V)) (new : CacheState K V)
      → Evicting steady Loop mid new rest → Evicting steady Loop old new (calls ++ rest)

  -- before the first step
  pub GoesOn-begins : (old : CacheState K V) (state : S) → Calls hooks (GoesOn old old) state state
  GoesOn-begins old state = Calls-none hooks (GoesOn old old) state (λ rest new goes. goes)

  module _ (old mid : CacheState K V) (first next : S)
      (so_far : Calls hooks (GoesOn old mid) first next) where
    module _ (Step : CacheState K V → List (HookCall K V) → CacheState K V → Type 0)
        (new : CacheState K V) (last : S)
        (steps : Calls hooks (Evicting steady Step mid new) next last) where
      -- one step more
      pub GoesOn-steps : ((calls rest : List (HookCall K V)) (end : CacheState K V)
          → UpToOrder (Step mid calls) new → UpToOrder (Loop new rest) end
          → UpToOrder (Loop mid (calls ++ rest)) end)
          → Calls hooks (GoesOn old new) first last
      GoesOn-steps join =
          Calls-then hooks (GoesOn old mid) (Evicting steady Step mid new) (GoesOn old new) first
          next last
          (λ calls more goes step rest end ends. subst (Evicting steady Loop old end)
          (sym (append_assoc calls more rest))
          (goes (more ++ rest) end (
            λ is. join more rest end (step.0 is) (ends.0 is),
            AreEvictions-append more rest step.1 ends.1,
            Tells-append more rest step.2 ends.2,
          )))
          so_far steps

      -- the last step
      pub GoesOn-stops : ((calls : List (HookCall K V)) → UpToOrder (Step mid calls) new
          → UpToOrder (Loop mid calls) new)
          → Calls hooks (Evicting steady Loop old new) first last
      GoesOn-stops ends =
          Calls-then hooks (GoesOn old mid) (Evicting steady Step mid new)
          (Evicting steady Loop old new) first next last
          (λ calls more goes step. goes more new (λ is. ends more (step.0 is), step.1, step.2))
          so_far steps

    -- no step more
    pub GoesOn-ends : UpToOrder (Loop mid []) mid
        → Calls hooks (Evicting steady Loop old mid) first next
    GoesOn-ends ends =
        Calls-map hooks (GoesOn old mid) (Evicting steady Loop old mid) first next
        (λ calls goes. subst (Evicting steady Loop old mid) (append-nil calls)
        (goes [] mid (λ is. ends, AreEvictions.none, Leads-same (residents mid)))) so_far
