-- What a reference to the value of a token holds, and how the logic calls its type.
use Rattle.std.specs.Prelude.{ℕ, Bool, List, []}
use Rattle.std.specs.Borrow.{RattleType, GName}
use Rattle.std.specs.declared.alloc.Allocator.{Ghosts}
use Rattle.std.specs.declared.cmp.PartialEq as partial_eq
use Rattle.std.specs.declared.default.Default as default
use Rattle.std.specs.declared.hash.Hash as hash
use Rattle.std.specs.declared.hash.Hasher as hasher
use Rattle.std.specs.declared.hash.BuildHasher as builder
use mir.Syntax.{named}
use Rattle.quick_cache_model.specs.declared.terms.weighter.Weighter as weighter
use Rattle.quick_cache_model.specs.declared.terms.lifecycle.Lifecycle as lifecycle
use Rattle.quick_cache_model.specs.declared.touches.Touches as touch
use Rattle.quick_cache_model.specs.declared.placeholder.SharedPlaceholder as placeholder
use Rattle.quick_cache_shard.specs.Shard.{Shard}
use Rattle.quick_cache_shard.specs.TokenValues.{with_value_at}
use Rattle.quick_cache_shard.specs.declared.by_token.token_mut.TokenMut.{TokenMut}
use Rattle.quick_cache_shard.specs.contracts.by_token.token_mut.TokenMut as refs

module _ {K V We B L P A H S T Kept : Type 0} {key_eq : partial_eq.Ghosts K}
    {key_hash : hash.Ghosts K} {weigh : weighter.Ghosts We K V} {make : builder.Ghosts B H}
    {hashes : hasher.Ghosts H} {life : lifecycle.Ghosts L K V S} {start : default.Ghosts S}
    {place : placeholder.Ghosts P K T Kept} {touches : touch.Ghosts T} {fresh : default.Ghosts T}
  where
    -- the borrow that a reference holds
    abbrev pub lender : TokenMut K V We B L P A H S T Kept key_eq key_hash weigh make hashes life start place
        touches fresh → GName
    lender r = r.shard.ghost_name

    -- the shard that it writes to
    abbrev pub lent : TokenMut K V We B L P A H S T Kept key_eq key_hash weigh make hashes life start place
        touches fresh → Shard K V We B L
    lent r = r.shard.now

    -- the number of the token whose item it stands for
    abbrev pub slot_of : TokenMut K V We B L P A H S T Kept key_eq key_hash weigh make hashes life start place
        touches fresh → ℕ
    slot_of r = r.slot

    -- the reference once the value was written
    abbrev pub with_value : TokenMut K V We B L P A H S T Kept key_eq key_hash weigh make hashes life start place
        touches fresh → V
        → TokenMut K V We B L P A H S T Kept key_eq key_hash weigh make hashes life start place
        touches fresh
    with_value r value = record r {
      shard = record r.shard { now = with_value_at key_eq.eq r.slot value r.shard.now };
    }

module _ (K V We B L P A H S T Kept : RattleType) (equal : K.Denot → K.Denot → Bool)
    (writes : K.Denot → List (List ℕ)) (weigh : weighter.Ghosts We.Denot K.Denot V.Denot)
    (make : builder.Ghosts B.Denot H.Denot) (hashes : hasher.Ghosts H.Denot)
    (life : lifecycle.Ghosts L.Denot K.Denot V.Denot S.Denot) (starts : S.Denot → Type 0)
    (place : placeholder.Ghosts P.Denot K.Denot T.Denot Kept.Denot)
    (is_default : T.Denot → Type 0) (may_count : ℕ → Type 0) (none_counted : may_count 0)
    (alloc : Ghosts A.Denot) where
  -- how the logic calls the type of a reference
  abbrev pub refs_row : RattleType
  refs_row = refs.the_row (record { mir = named 1; lft = [] }) K V We B L P A H S T Kept
      (record { eq = equal }) (record { hash_input = writes }) weigh make hashes life
      (record { is_default = starts }) place
      (record { may_count = may_count; none_counted = none_counted })
      (record { is_default = is_default }) alloc
