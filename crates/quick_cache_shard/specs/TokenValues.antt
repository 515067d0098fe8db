-- The value of the item of a token, and how it is written.
use Rattle.std.specs.Prelude.{◌≡◌, ℕ, Bool, true, List, [], ◌∷◌, Option, Some, None, is_some, cond, eqb}
use Rattle.quick_cache_model.specs.CacheState.{CacheState}
use Rattle.quick_cache_model.specs.Hooks.{Rules}
use Rattle.quick_cache_policy.specs.References.{ReweighsUnder, with_value_under}
use Rattle.quick_cache_shard.specs.Shard.{Shard, HasTokenUnder, StandsAt}

-- the key at a token, if an item stands there
abbrev pub key_at : {K : Type 0} → ℕ → List (ℕ × K) → Option K
key_at token [] = None
key_at token (place ∷ places) =
    cond (eqb place.0 token) (Some place.1) (key_at token places)

-- the state once the item of this key has the value, if there is a key
abbrev pub with_value_of : {K V : Type 0} → (equal : K → K → Bool) → Option K → V → CacheState K V
    → CacheState K V
with_value_of equal None value state = state
with_value_of equal (Some key) value state = with_value_under (equal key) value state

module _ {K V We B L : Type 0} where
  -- some item has the token
  abbrev pub IsTaken : Shard K V We B L → ℕ → Type 0
  IsTaken shard token = is_some (key_at token shard.places) ≡ true

  -- the value is that of the item of the token
  abbrev pub IsValueOf : Shard K V We B L → ℕ → V → Type 0
  IsValueOf shard token value = (item : _) × StandsAt shard token item × (value ≡ item.value)

  -- The item of the token was weighed anew, whatever query stands for its key: it has the value that
  -- it had.
  abbrev pub ReweighsToken : Rules K V → Shard K V We B L → ℕ → CacheState K V → Type 0
  ReweighsToken rules old token new = (stands_for : K → Bool)
      → HasTokenUnder stands_for old token → ReweighsUnder stands_for rules old.state new

  -- the shard once the item of the token has this value, and the weight that it had
  abbrev pub with_value_at : (equal : K → K → Bool) → ℕ → V → Shard K V We B L → Shard K V We B L
  with_value_at equal token value shard = record shard {
    state = with_value_of equal (key_at token shard.places) value shard.state;
  }
