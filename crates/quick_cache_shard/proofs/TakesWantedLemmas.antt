-- A walk that looks for the next item that is wanted.
use Rattle.std.proofs.Common.{◌≡◌, ℕ, ◌+◌, ◌<◌, Bool, true, false, inl, inr, sym, subst, arith}
use Rattle.std.specs.List.{Contains}
use Rattle.std.specs.Int.NonZero.{non_zero_u32_get as number}
use Rattle.std.specs.declared.num.NonZeroU32.{NonZeroU32 as Token}
use Rattle.std.proofs.lemmas.Bool.{cases_lt}
use Rattle.quick_cache_model.specs.CacheState.{Item}
use Rattle.quick_cache_policy.specs.Tokens.{TakesItem}
use Rattle.quick_cache_shard.specs.PlaceWalks.{IsNextPlace, EndsAt}
use Rattle.quick_cache_shard.specs.Shard.{Shard, IsSoundShard, LeavesPlace, residents}
use Rattle.quick_cache_shard.specs.TakesWanted.{PassesTo, WantsNone, IsFirstWanted, TakesWanted}
use Rattle.quick_cache_shard.proofs.RetainSomeLemmas.{item-taken, resident-same}

module _ {K V We B L : Type 0} (answers : K → V → Bool → Type 0) (after : ℕ)
    (shard : Shard K V We B L) where
  -- none lies between a token and the next
  pub PassesTo-none : PassesTo answers after shard (after + 1)
  PassesTo-none token item stands above below = absurd (omega (arith, above, below))

  -- where none is left and none was wanted so far, none is wanted
  pub WantsNone-ends : (last : ℕ) → EndsAt shard.places last
      → PassesTo answers after shard (last + 1) → WantsNone answers after shard
  WantsNone-ends last ends passed next token item stands above below =
      passed token item stands above (omega (arith, ends (token, item.key) stands.place))

  module _ (equal : K → K → Bool) (reflexive : (k : K) → equal k k ≡ true)
      (sound : IsSoundShard equal shard) where
    -- what is taken out from where the first wanted item stands is that item
    pub TakesWanted-first : (token : Token) (item : Item K V)
        → IsFirstWanted answers after shard (number token) item
        → (new : Shard K V We B L) (pair : K × V) → TakesItem shard.state pair new.state
        → LeavesPlace shard (number token) pair.0 new
        → TakesWanted answers after shard (token, pair.0, pair.1) new
    TakesWanted-first token item first new pair takes leaves = record {
      takes = takes;
      first = subst (λ (i : Item K V). IsFirstWanted answers after shard (number token) i)
          (sym (item-taken equal reflexive shard sound (number token) item first.stands.place
          first.stands.there new pair takes leaves)) first;
      leaves = leaves;
    }

    module _ (last token : ℕ) (item : Item K V)
        (next : IsNextPlace shard.places last (token, item.key))
        (there : Contains (residents shard.state) item)
        (passed : PassesTo answers after shard (last + 1)) where
      -- none lies between the last item that was shown and the next
      between : PassesTo answers after shard token
      between other one stands above below = elim (cases_lt last other) [
        | inl behind ↦
            absurd (omega (arith, below, next.least (other, one.key) stands.place behind))
        | inr before ↦ passed other one stands above (omega (arith, before))
      ]

      -- it was not wanted either
      pub PassesTo-next : answers item.key item.value false
          → PassesTo answers after shard (token + 1)
      PassesTo-next says other one stands above below = elim (cases_lt other token) [
        | inl before ↦ between other one stands above before
        | inr from ↦
            let same : other ≡ token = omega (arith, below, from) in
            subst (λ (i : Item K V). answers i.key i.value false)
            (sym (resident-same equal reflexive shard.state sound.valid item one there
            stands.there
            (sound.places.one_key (other, one.key) (token, item.key) stands.place next.there same)))
            says
      ]

      -- it is the first that is wanted
      pub IsFirstWanted-next : after < token → answers item.key item.value true
          → IsFirstWanted answers after shard token item
      IsFirstWanted-next above says = record {
        stands = record { place = next.there; there = there };
        above = above;
        passes = between;
        wanted = says;
      }
