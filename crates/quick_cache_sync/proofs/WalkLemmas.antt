-- A walk that comes to the end of a shard.
use Rattle.std.proofs.Common.{◌≡◌, ℕ, ◌+◌, ◌<◌, ◌≤◌, Bool, Some, None, refl, inl, inr, arith, subst, sym, ◌∙◌}
use Rattle.std.specs.Iterator.{size}
use Rattle.std.specs.Int.NonZero.{non_zero_u32_get as number}
use Rattle.std.specs.declared.num.NonZeroU32.{NonZeroU32 as Token}
use Rattle.std.proofs.lemmas.Bool.{cases_lt}
use Rattle.quick_cache_model.specs.declared.terms.lifecycle.Lifecycle as lifecycle
use Rattle.quick_cache_shard.specs.PlaceWalks.{EndsAt}
use Rattle.quick_cache_shard.specs.Shard.{Shard}
use Rattle.quick_cache_shard.specs.WalksFrom.{number_or_zero}
use Rattle.quick_cache_locked.specs.Locked.{FromSome}
use Rattle.quick_cache_sync.specs.Walks.{ComesTo, EndsUpTo, HoldsUpTo, Standing, tokens_ahead}

-- it begins the next one
pub ComesTo-next : (old : Standing) (shard after index : ℕ) → shard ≡ index
    → ComesTo old shard after → ComesTo old (index + 1) 0
ComesTo-next old shard after index at (inl here) = inr (omega (arith, at, here.0), refl)
ComesTo-next old shard after index at (inr later) = inr (omega (arith, at, later.0), refl)

-- it comes to a shard behind one number
ComesTo-same : (old : Standing) (shard first second : ℕ) → ComesTo old shard first
    → ComesTo old shard second → first ≡ second
ComesTo-same old shard first second (inl here) (inl also) = here.1 ∙ sym also.1
ComesTo-same old shard first second (inl here) (inr later) =
    absurd (omega (arith, here.0, later.0))
ComesTo-same old shard first second (inr later) (inl here) =
    absurd (omega (arith, here.0, later.0))
ComesTo-same old shard first second (inr later) (inr also) = later.1 ∙ sym also.1

module _ {K V We B L S : Type 0} (life : lifecycle.Ghosts L K V S) (equal : K → K → Bool)
    (holds : Shard K V We B L → ℕ → Type 0) (old : Standing) where
  -- no shard is passed where it stands
  pub HoldsUpTo-first : HoldsUpTo life equal holds old old.0
  HoldsUpTo-first place after (inl here) below = absurd (omega (arith, here.0, below))
  HoldsUpTo-first place after (inr later) below = absurd (omega (arith, later.0, below))

  -- one more is passed of which it is true
  pub HoldsUpTo-next : (shard after index : ℕ) → shard ≡ index → ComesTo old shard after
      → FromSome life equal (λ (shard : Shard K V We B L). holds shard after)
      → HoldsUpTo life equal holds old shard → HoldsUpTo life equal holds old (index + 1)
  HoldsUpTo-next shard after index at comes is before place behind came below =
      elim (cases_lt place index) [
        | inl earlier ↦ before place behind came (omega (arith, at, earlier))
        | inr later ↦
            let here : place ≡ index = omega (arith, below, later) in subst (λ number. FromSome life equal
            (λ (shard : Shard K V We B L). holds shard number))
            (ComesTo-same old shard after behind comes
            (subst (λ number. ComesTo old number behind) (here ∙ sym at) came)) is
      ]

module _ {K V L S : Type 0} (life : lifecycle.Ghosts L K V S) (equal : K → K → Bool)
    (We B : Type 0) (old : Standing) where
  -- the same of shards that had no more
  pub EndsUpTo-first : EndsUpTo life equal We B old old.0
  EndsUpTo-first =
      HoldsUpTo-first life equal (λ (shard : Shard K V We B L) after. EndsAt shard.places after) old

  pub EndsUpTo-next : (shard after index : ℕ) → shard ≡ index → ComesTo old shard after
      → FromSome life equal (λ (shard : Shard K V We B L). EndsAt shard.places after)
      → EndsUpTo life equal We B old shard → EndsUpTo life equal We B old (index + 1)
  EndsUpTo-next =
      HoldsUpTo-next life equal (λ (shard : Shard K V We B L) after. EndsAt shard.places after) old

-- a later token of the shard is nearer to the end
pub tokens_ahead-nearer : (shards same : ℕ) (old now : Standing) (index : ℕ) (token : Token)
    → same ≡ shards → now.0 ≡ index → number_or_zero now.1 < number token
    → number token ≤ 4294967296
    → size (tokens_ahead shards now) ≤ size (tokens_ahead shards old)
    → size (tokens_ahead same (index, Some token)) < size (tokens_ahead shards old)
tokens_ahead-nearer shards same old now index token is at above within ahead =
    omega (arith, is, at, above, within, ahead)

-- and so is the next shard
pub tokens_ahead-farther : (shards : ℕ) (old now : Standing) (index : ℕ) → now.0 ≡ index
    → index < shards → size (tokens_ahead shards now) ≤ size (tokens_ahead shards old)
    → size (tokens_ahead shards (index + 1, None)) ≤ size (tokens_ahead shards old)
tokens_ahead-farther shards old now index at below ahead = omega (arith, at, below, ahead)
