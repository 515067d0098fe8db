-- What a reference to a value of a cache holds, to read or to write, and how the logic calls the type
-- of one to write.
use Rattle.std.specs.Prelude.{ℕ, Bool, List, []}
use Rattle.std.specs.Borrow.{RattleType, GName}
use Rattle.std.specs.declared.alloc.Allocator.{Ghosts}
use Rattle.std.specs.declared.cmp.PartialEq as partial_eq
use Rattle.std.specs.declared.default.Default as default
use Rattle.std.specs.declared.hash.Hash as hash
use Rattle.std.specs.declared.hash.Hasher as hasher
use Rattle.std.specs.declared.hash.BuildHasher as builder
use mir.Syntax.{named}
use Rattle.quick_cache_model.specs.declared.keys.equivalent.Equivalent as equivalent
use Rattle.quick_cache_model.specs.declared.terms.weighter.Weighter as weighter
use Rattle.quick_cache_model.specs.declared.terms.lifecycle.Lifecycle as lifecycle
use Rattle.quick_cache_shard.specs.References.{with_value_under}
use Rattle.quick_cache_shard.specs.Shard.{Shard}
use Rattle.quick_cache_unsync.specs.References.{still_under}
use Rattle.quick_cache_unsync.specs.declared.lent.reading.Ref.{Ref}
use Rattle.quick_cache_unsync.specs.declared.lent.reference.RefMut.{RefMut}
use Rattle.quick_cache_unsync.specs.contracts.lent.reference.RefMut as refs

module _ {Q K V We B L A H S : Type 0} {query : equivalent.Ghosts Q K} {query_hash : hash.Ghosts Q}
    {query_eq : partial_eq.Ghosts Q} {key_eq : partial_eq.Ghosts K} {key_hash : hash.Ghosts K}
    {weigh : weighter.Ghosts We K V} {make : builder.Ghosts B H} {hashes : hasher.Ghosts H}
    {life : lifecycle.Ghosts L K V S} {start : default.Ghosts S} where
  -- the borrow that one to read holds
  abbrev pub reader : Ref Q K V We B L A H S query query_hash query_eq key_eq key_hash weigh make
      hashes life start → GName
  reader r = r.cache.ghost_name

  -- the cache that it reads
  abbrev pub read_from : Ref Q K V We B L A H S query query_hash query_eq key_eq key_hash weigh make
      hashes life start → Shard K V We B L
  read_from r = r.cache.now

  -- the query that it stands under
  abbrev pub asked_of : Ref Q K V We B L A H S query query_hash query_eq key_eq key_hash weigh make
      hashes life start → Q
  asked_of r = r.query.now

  -- the borrow that one to write holds
  abbrev pub lender : RefMut Q K V We B L A H S query query_hash query_eq key_eq key_hash weigh make
      hashes life start → GName
  lender r = r.cache.ghost_name

  -- the cache that it writes to
  abbrev pub lent : RefMut Q K V We B L A H S query query_hash query_eq key_eq key_hash weigh make
      hashes life start → Shard K V We B L
  lent r = r.cache.now

  -- the query that it stands under
  abbrev pub query_of : RefMut Q K V We B L A H S query query_hash query_eq key_eq key_hash weigh
      make hashes life start → Q
  query_of r = r.query.now

  -- the reference once the value was written
  abbrev pub with_value : RefMut Q K V We B L A H S query query_hash query_eq key_eq key_hash weigh
      make hashes life start → V
      → RefMut Q K V We B L A H S query query_hash query_eq key_eq key_hash weigh make hashes life
      start
  with_value r value = record r {
    cache = record r.cache {
      now = record r.cache.now {
        state = with_value_under (query.equivalent r.query.now) value r.cache.now.state;
      };
    };
    there = still_under (query.equivalent r.query.now) value r.cache.now.state r.there;
  }

module _ (Q K V We B L A H S : RattleType) (stands_for : Q.Denot → K.Denot → Bool)
    (query_input : Q.Denot → List (List ℕ)) (query_equal : Q.Denot → Q.Denot → Bool)
    (equal : K.Denot → K.Denot → Bool) (writes : K.Denot → List (List ℕ))
    (weigh : weighter.Ghosts We.Denot K.Denot V.Denot) (make : builder.Ghosts B.Denot H.Denot)
    (hashes : hasher.Ghosts H.Denot) (life : lifecycle.Ghosts L.Denot K.Denot V.Denot S.Denot)
    (is_default : S.Denot → Type 0) (alloc : Ghosts A.Denot) where
  -- how the logic calls the type of a reference
  abbrev pub refs_row : RattleType
  refs_row = refs.the_row (record { mir = named 1; lft = [] }) Q K V We B L A H S
      (record { equivalent = stands_for }) (record { hash_input = query_input })
      (record { eq = query_equal }) (record { eq = equal }) (record { hash_input = writes }) weigh
      make hashes life (record { is_default = is_default }) (record {}) alloc
