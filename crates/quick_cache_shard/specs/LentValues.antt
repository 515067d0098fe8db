-- What a reference to a value of a shard holds, and how the logic calls its type.
use Rattle.std.specs.Prelude.{ℕ, Bool, List, []}
use Rattle.std.specs.Borrow.{RattleType, GName}
use Rattle.std.specs.declared.alloc.Allocator.{Ghosts}
use Rattle.std.specs.declared.cmp.PartialEq as partial_eq
use Rattle.std.specs.declared.default.Default as default
use Rattle.std.specs.declared.hash.Hash as hash
use Rattle.std.specs.declared.hash.Hasher as hasher
use Rattle.std.specs.declared.hash.BuildHasher as builder
use mir.Syntax.{named}
use Rattle.quick_cache_model.specs.declared.keys.equivalent.Equivalent as equivalent
use Rattle.quick_cache_model.specs.declared.terms.weighter.Weighter as weighter
use Rattle.quick_cache_model.specs.declared.terms.lifecycle.Lifecycle as lifecycle
use Rattle.quick_cache_model.specs.declared.touches.Touches as touch
use Rattle.quick_cache_model.specs.declared.placeholder.SharedPlaceholder as placeholder
use Rattle.quick_cache_policy.specs.References.{with_value_under}
use Rattle.quick_cache_shard.specs.Shard.{Shard}
use Rattle.quick_cache_shard.specs.StillUnder.{still_under}
use Rattle.quick_cache_shard.specs.declared.writing.lending.RefMut.{RefMut}
use Rattle.quick_cache_shard.specs.contracts.writing.lending.RefMut as refs

module _ {Q K V We B L P A H S T Kept : Type 0} {query : equivalent.Ghosts Q K}
    {query_hash : hash.Ghosts Q} {query_eq : partial_eq.Ghosts Q} {key_eq : partial_eq.Ghosts K}
    {key_hash : hash.Ghosts K} {weigh : weighter.Ghosts We K V} {make : builder.Ghosts B H}
    {hashes : hasher.Ghosts H} {life : lifecycle.Ghosts L K V S} {start : default.Ghosts S}
    {place : placeholder.Ghosts P K T Kept} {touches : touch.Ghosts T} {fresh : default.Ghosts T}
  where
    -- the borrow that a reference holds
    abbrev pub lender : RefMut Q K V We B L P A H S T Kept query query_hash query_eq key_eq key_hash weigh
        make hashes life start place touches fresh → GName
    lender r = r.shard.ghost_name

    -- the shard that it writes to
    abbrev pub lent : RefMut Q K V We B L P A H S T Kept query query_hash query_eq key_eq key_hash weigh
        make hashes life start place touches fresh
        → Shard K V We B L
    lent r = r.shard.now

    -- the query that it stands under
    abbrev pub query_of : RefMut Q K V We B L P A H S T Kept query query_hash query_eq key_eq key_hash weigh
        make hashes life start place touches fresh → Q
    query_of r = r.query.now

    -- the reference once the value was written
    abbrev pub with_value : RefMut Q K V We B L P A H S T Kept query query_hash query_eq key_eq key_hash weigh
        make hashes life start place touches fresh
        → V → RefMut Q K V We B L P A H S T Kept query query_hash query_eq key_eq key_hash weigh
        make hashes life start place touches fresh
    with_value r value = record r {
      shard = record r.shard {
        now = record r.shard.now {
          state = with_value_under (query.equivalent r.query.now) value r.shard.now.state;
        };
      };
      there = still_under (query.equivalent r.query.now) value r.shard.now.state r.there;
    }

module _ (Q K V We B L P A H S T Kept : RattleType) (stands_for : Q.Denot → K.Denot → Bool)
    (query_input : Q.Denot → List (List ℕ)) (query_equal : Q.Denot → Q.Denot → Bool)
    (equal : K.Denot → K.Denot → Bool) (writes : K.Denot → List (List ℕ))
    (weigh : weighter.Ghosts We.Denot K.Denot V.Denot) (make : builder.Ghosts B.Denot H.Denot)
    (hashes : hasher.Ghosts H.Denot) (life : lifecycle.Ghosts L.Denot K.Denot V.Denot S.Denot)
    (starts : S.Denot → Type 0) (place : placeholder.Ghosts P.Denot K.Denot T.Denot Kept.Denot)
    (is_default : T.Denot → Type 0) (may_count : ℕ → Type 0) (none_counted : may_count 0)
    (alloc : Ghosts A.Denot) where
  -- how the logic calls the type of a reference
  abbrev pub refs_row : RattleType
  refs_row = refs.the_row (record { mir = named 1; lft = [] }) Q K V We B L P A H S T Kept
      (record { equivalent = stands_for }) (record { hash_input = query_input })
      (record { eq = query_equal }) (record { eq = equal }) (record { hash_input = writes }) weigh
      make hashes life (record { is_default = starts }) place
      (record { may_count = may_count; none_counted = none_counted })
      (record { is_default = is_default }) alloc
