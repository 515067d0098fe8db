-- What a caller that wrote through a reference knows.
use Rattle.std.proofs.Common.{◌≡◌, ◌<◌, ◌≤◌, Bool, true, false, Some, None, subst, sym}
use Rattle.std.proofs.Math.Bridge.{le_prop}
use Rattle.std.proofs.Math.Nat.{ℕ_set}
use Rattle.std.specs.declared.cmp.PartialEq as partial_eq
use Rattle.std.specs.declared.default.Default as default
use Rattle.std.specs.declared.hash.Hash as hash
use Rattle.std.specs.declared.hash.Hasher as hasher
use Rattle.std.specs.declared.hash.BuildHasher as builder
use Rattle.quick_cache_model.specs.declared.keys.equivalent.Equivalent as equivalent
use Rattle.quick_cache_model.specs.declared.terms.weighter.Weighter as weighter
use Rattle.quick_cache_model.specs.declared.terms.lifecycle.Lifecycle as lifecycle
use Rattle.quick_cache_model.specs.References.{WritesItem}
use Rattle.quick_cache_model.specs.CacheState.{CacheState, Item, UpToOrder, keys_by}
use Rattle.quick_cache_model.specs.Finding.{HasNoItem}
use Rattle.quick_cache_model.specs.Hashing.{hash_of}
use Rattle.quick_cache_model.specs.Hooks.{Rules}
use Rattle.quick_cache_model.specs.Lookups.{LooksUp}
use Rattle.quick_cache_model.proofs.OrderLaws.{UpToOrder-exact}
use Rattle.quick_cache_shard.specs.References.{count_under, with_value_under, ReweighsUnder}
use Rattle.quick_cache_shard.specs.Shard.{Shard}
use Rattle.quick_cache_shard.proofs.WrittenLemmas.{written}
use Rattle.quick_cache_unsync.specs.LentValues.{with_value}
use Rattle.quick_cache_unsync.specs.References.{Sets}
use Rattle.quick_cache_unsync.specs.declared.lent.reference.RefMut.{RefMut}

module _ {Q K V We B L A H S : Type 0} {query : equivalent.Ghosts Q K} {query_hash : hash.Ghosts Q}
    {query_eq : partial_eq.Ghosts Q} {key_eq : partial_eq.Ghosts K} {key_hash : hash.Ghosts K}
    {weigh : weighter.Ghosts We K V} {make : builder.Ghosts B H} {hashes : hasher.Ghosts H}
    {life : lifecycle.Ghosts L K V S} {start : default.Ghosts S} where
  -- only one proof says that the item is there, and that the hash is the query's
  pub is_with_value : (r : RefMut Q K V We B L A H S query query_hash query_eq key_eq key_hash weigh
      make hashes life start) (value : V)
      → (there : 0 < count_under (query.equivalent r.query.now)
      (with_value_under (query.equivalent r.query.now) value r.cache.now.state))
      → (hash_is : r.hash ≡ hash_of make hashes r.cache.now.builder
      (query_hash.hash_input r.query.now))
      → record (with_value r value) { there = there; hash_is = hash_is } ≡ with_value r value
  is_with_value r value there hash_is = λ i. record (with_value r value) {
    there = le_prop there (with_value r value).there i;
    hash_is = ℕ_set _ _ hash_is r.hash_is i;
  }

module _ {K V : Type 0} (rules : Rules K V) (stands_for : K → Bool) (value : V) where
  -- nothing was found, so nothing is there
  missed : {X : Type 0} (of : Item K V → X) (old new : CacheState K V)
      → LooksUp stands_for old of None new → HasNoItem stands_for new
  missed of old _ (LooksUp.miss none) =
      record { hot = none.hot; cold = none.cold; still = none.still }

  -- so nothing is set
  pub sets-nothing : (old new : CacheState K V)
      → UpToOrder (LooksUp stands_for old (λ item. item.value) None) new
      → Sets stands_for rules old value false new
  sets-nothing old new looks = record {
    found = None;
    mid = looks.ordered;
    looks = UpToOrder-exact _ looks.ordered looks.holds;
    writes = record {
      ordered = looks.ordered;
      holds = WritesItem.unwritten (missed (λ item. item.value) old looks.ordered looks.holds);
      same = looks.same;
    };
  }

  -- and what is not there is not written
  pub unwritten : (old new : CacheState K V) → HasNoItem stands_for old → new ≡ old
      → UpToOrder (WritesItem rules stands_for old value false) new
  unwritten old new none same = subst
      (λ (t : CacheState K V). UpToOrder (WritesItem rules stands_for old value false) t) (sym same)
      (UpToOrder-exact _ old (WritesItem.unwritten none))

  module _ {We B L : Type 0} (final new : Shard K V We B L) (same : final ≡ new) where
    -- what is left where the reference ended
    pub sets-final : (old mid : CacheState K V) (seen : V)
        → UpToOrder (LooksUp stands_for old (λ item. item.value) (Some seen)) mid
        → keys_by stands_for mid ≤ 1
        → ReweighsUnder stands_for rules (with_value_under stands_for value mid) new.state
        → Sets stands_for rules old value true final.state
    sets-final old mid seen looks single reweighs =
        subst (λ (s : Shard K V We B L). Sets stands_for rules old value true s.state) (sym same)
        (record {
          found = Some seen;
          mid = mid;
          looks = looks;
          writes = written rules stands_for value mid new.state single reweighs;
        })

    pub pokes-final : (old : CacheState K V) → keys_by stands_for old ≤ 1
        → ReweighsUnder stands_for rules (with_value_under stands_for value old) new.state
        → UpToOrder (WritesItem rules stands_for old value true) final.state
    pokes-final old single reweighs =
        subst (λ (s : Shard K V We B L). UpToOrder (WritesItem rules stands_for old value true)
        s.state) (sym same) (written rules stands_for value old new.state single reweighs)
