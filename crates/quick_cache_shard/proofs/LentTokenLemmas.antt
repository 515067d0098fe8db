-- What a reference to the value of a token is once a value was written through it.
use Rattle.std.proofs.Common.{◌≡◌, ◌<◌, ℕ, true, is_some}
use mathlib.Core.Bool.{Bool-set}
use Rattle.std.proofs.Math.Bridge.{le_prop}
use Rattle.std.specs.declared.cmp.PartialEq as partial_eq
use Rattle.std.specs.declared.default.Default as default
use Rattle.std.specs.declared.hash.Hash as hash
use Rattle.std.specs.declared.hash.Hasher as hasher
use Rattle.std.specs.declared.hash.BuildHasher as builder
use Rattle.quick_cache_model.specs.declared.terms.weighter.Weighter as weighter
use Rattle.quick_cache_model.specs.declared.terms.lifecycle.Lifecycle as lifecycle
use Rattle.quick_cache_model.specs.declared.touches.Touches as touch
use Rattle.quick_cache_model.specs.declared.placeholder.SharedPlaceholder as placeholder
use Rattle.quick_cache_shard.specs.TokenValues.{key_at, with_value_at}
use Rattle.quick_cache_shard.specs.LentTokens.{with_value}
use Rattle.quick_cache_shard.specs.declared.by_token.token_mut.TokenMut.{TokenMut}

module _ {K V We B L P A H S T Kept : Type 0} {key_eq : partial_eq.Ghosts K}
    {key_hash : hash.Ghosts K} {weigh : weighter.Ghosts We K V} {make : builder.Ghosts B H}
    {hashes : hasher.Ghosts H} {life : lifecycle.Ghosts L K V S} {start : default.Ghosts S}
    {place : placeholder.Ghosts P K T Kept} {touches : touch.Ghosts T} {fresh : default.Ghosts T}
  where
    -- only one proof says that it has a number, and that an item is there
    pub is_with_value : (r : TokenMut K V We B L P A H S T Kept key_eq key_hash weigh make hashes life
        start place touches fresh) (value : V) (token : ℕ) → token ≡ r.slot → (named : 0 < r.slot)
        → (there : is_some (key_at r.slot r.shard.now.places) ≡ true)
        → record r {
          shard = record r.shard { now = with_value_at key_eq.eq token value r.shard.now };
          named = named;
          there = there;
        }
        ≡ with_value r value
    is_with_value r value token same named there = λ i. record r {
      shard = record r.shard { now = with_value_at key_eq.eq (same i) value r.shard.now };
      named = le_prop named r.named i;
      there = Bool-set _ _ there r.there i;
    }
