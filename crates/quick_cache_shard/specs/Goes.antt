-- What a shard goes by.
use Rattle.std.specs.Prelude.{ℕ, List}
use Rattle.std.specs.declared.hash.Hasher as hasher
use Rattle.std.specs.declared.hash.BuildHasher as builder
use Rattle.quick_cache_model.specs.declared.terms.weighter.Weighter as weighter
use Rattle.quick_cache_model.specs.declared.terms.lifecycle.Lifecycle as lifecycle
use Rattle.quick_cache_model.specs.Hashing.{hash_of}
use Rattle.quick_cache_model.specs.Hooks.{Rules, Hooks}
use Rattle.quick_cache_policy.specs.declared.policy.Terms.{Terms}

-- the rules, as they are with what a count of touches may be, the hooks, and whether pinning is
-- steady
pub record Conduct (K V S : Type 0) : Type 1 where
  pub rules : (may_count : ℕ → Type 0) → Rules K V
  pub hooks : Hooks K V S
  pub steady : Type 0

-- these, as the three things say that the shard was made with
abbrev pub Goes : (K V We B L S : Type 0) → Type 1
Goes K V We B L S = Terms We B L → Conduct K V S

-- what the keys, a weigher, a builder and a lifecycle say
abbrev pub goes_by : {K V We B L H S : Type 0} → (K → List (List ℕ)) → weighter.Ghosts We K V
    → builder.Ghosts B H → hasher.Ghosts H → lifecycle.Ghosts L K V S → Goes K V We B L S
goes_by writes weigh make hasher life = λ terms. record {
  rules = λ may_count. record {
    hash = λ key. hash_of make hasher terms.builder (writes key);
    weight = weigh.weight_of terms.weigher;
    pinned = life.pinned terms.lifecycle;
    may_count = may_count;
  };
  hooks = record {
    before_evict = life.before_evict_gives terms.lifecycle;
    evict_hot = life.on_evict_hot_gives terms.lifecycle;
    evict_cold = life.on_evict_cold_gives terms.lifecycle;
  };
  steady = life.steady terms.lifecycle;
}
