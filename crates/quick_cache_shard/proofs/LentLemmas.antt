-- What a reference is once a value was written through it.
use Rattle.std.proofs.Common.{◌≡◌, ◌<◌}
use Rattle.std.proofs.Math.Bridge.{le_prop}
use Rattle.std.proofs.Math.Nat.{ℕ_set}
use Rattle.std.specs.declared.cmp.PartialEq as partial_eq
use Rattle.std.specs.declared.default.Default as default
use Rattle.std.specs.declared.hash.Hash as hash
use Rattle.std.specs.declared.hash.Hasher as hasher
use Rattle.std.specs.declared.hash.BuildHasher as builder
use Rattle.quick_cache_model.specs.declared.keys.equivalent.Equivalent as equivalent
use Rattle.quick_cache_model.specs.declared.terms.weighter.Weighter as weighter
use Rattle.quick_cache_model.specs.declared.terms.lifecycle.Lifecycle as lifecycle
use Rattle.quick_cache_model.specs.declared.touches.Touches as touch
use Rattle.quick_cache_model.specs.declared.placeholder.SharedPlaceholder as placeholder
use Rattle.quick_cache_model.specs.Hashing.{hash_of}
use Rattle.quick_cache_policy.specs.References.{count_under, with_value_under}
use Rattle.quick_cache_shard.specs.LentValues.{with_value}
use Rattle.quick_cache_shard.specs.declared.writing.lending.RefMut.{RefMut}

module _ {Q K V We B L P A H S T Kept : Type 0} {query : equivalent.Ghosts Q K}
    {query_hash : hash.Ghosts Q} {query_eq : partial_eq.Ghosts Q} {key_eq : partial_eq.Ghosts K}
    {key_hash : hash.Ghosts K} {weigh : weighter.Ghosts We K V} {make : builder.Ghosts B H}
    {hashes : hasher.Ghosts H} {life : lifecycle.Ghosts L K V S} {start : default.Ghosts S}
    {place : placeholder.Ghosts P K T Kept} {touches : touch.Ghosts T} {fresh : default.Ghosts T}
  where
    -- only one proof says that the item is there, and that the hash is the query's
    pub is_with_value : (r : RefMut Q K V We B L P A H S T Kept query query_hash query_eq key_eq
        key_hash weigh make hashes life start place touches fresh) (value : V)
        → (there : 0 < count_under (query.equivalent r.query.now)
        (with_value_under (query.equivalent r.query.now) value r.shard.now.state))
        → (hash_is : r.hash ≡ hash_of make hashes r.shard.now.builder
        (query_hash.hash_input r.query.now))
        → record (with_value r value) { there = there; hash_is = hash_is } ≡ with_value r value
    is_with_value r value there hash_is = λ i. record (with_value r value) {
      there = le_prop there (with_value r value).there i;
      hash_is = ℕ_set _ _ hash_is r.hash_is i;
    }
