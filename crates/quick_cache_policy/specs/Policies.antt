-- What a policy says, as the rules that a cache goes by.
use Rattle.std.specs.Prelude.{ℕ}
use Rattle.quick_cache_model.specs.Hooks.{Rules}
use Rattle.quick_cache_policy.specs.declared.policy.Policy as policy

-- the rules of a policy, with what a count of touches may be
abbrev pub rules_by : {K V M S : Type 0} → policy.Ghosts M K V S → (ℕ → Type 0) → M → Rules K V
rules_by goes may_count terms =
    record {
      hash = goes.hashed terms;
      weight = goes.weight_of terms;
      pinned = goes.pinned terms;
      may_count = may_count;
    }
