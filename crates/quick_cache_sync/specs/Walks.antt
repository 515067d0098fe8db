-- Walks over the shared cache: each step is one of some shard.
use Rattle.std.specs.Prelude.{◌≡◌, ◌⊎◌, ⊤, ℕ, ◌+◌, ◌*◌, ◌-◌, ◌<◌, ◌≤◌, Bool, Option, Some, None, IfSome, Result, Ok, Err, IfOk}
use Rattle.std.specs.Iterator.{Count, at_most}
use Rattle.std.specs.declared.num.NonZeroU32.{NonZeroU32 as Token}
use Rattle.quick_cache_model.specs.declared.terms.lifecycle.Lifecycle as lifecycle
use Rattle.quick_cache_model.specs.declared.refusal.Refusal.{Refusal}
use Rattle.quick_cache_shard.specs.Copies.{ClonesAreEqual}
use Rattle.quick_cache_shard.specs.PlaceWalks.{EndsAt}
use Rattle.quick_cache_shard.specs.Shard.{Shard}
use Rattle.quick_cache_shard.specs.TakesWanted.{TakesNextWanted, WantsNone}
use Rattle.quick_cache_shard.specs.WalksFrom.{number_or_zero}
use Rattle.quick_cache_locked.specs.Fitting.{ClonesFit}
use Rattle.quick_cache_locked.specs.Locked.{FromSome}
use Rattle.quick_cache_locked.specs.Walks.{ClonesNext, TakesNext}

-- where a walk stands: in which shard, and behind which token there
abbrev pub Standing : Type 0
Standing = ℕ × Option Token

-- in the first shard, before its items
abbrev pub beginning : Standing
beginning = (0, None)

-- what a contract sees of a walk: how many shards there are, and where it stands
pub record Walk : Type 0 where
  pub shards : ℕ
  pub at : Standing

-- what a contract sees of a walk that takes out what a predicate wants
pub record WantingWalk (F : Type 0) : Type 0 where
  pub shards : ℕ
  pub at : Standing
  pub wanted : F

-- from there it comes to this shard, behind this number: it goes on in its own, or begins a later one
abbrev pub ComesTo : Standing → (shard after : ℕ) → Type 0
ComesTo old shard after = ((shard ≡ old.0) × (after ≡ number_or_zero old.1))
    ⊎ ((old.0 < shard) × (after ≡ 0))

module _ {K V L S : Type 0} (life : lifecycle.Ghosts L K V S) (equal : K → K → Bool) where
  -- this was true of each shard before that one, behind where the walk came to it
  abbrev pub HoldsUpTo : {We B : Type 0} → (Shard K V We B L → (after : ℕ) → Type 0) → Standing
      → (next : ℕ) → Type 0
  HoldsUpTo {We} {B} holds old next = (place after : ℕ) → ComesTo old place after → place < next
      → FromSome life equal (λ (shard : Shard K V We B L). holds shard after)

  -- each shard before this one, from where the walk stood, had no item behind where it came to it
  abbrev pub EndsUpTo : (We B : Type 0) → Standing → (next : ℕ) → Type 0
  EndsUpTo We B = HoldsUpTo (λ (shard : Shard K V We B L) after. EndsAt shard.places after)

  -- none of the items that it had there was wanted
  abbrev pub WantsNoneUpTo : (We B : Type 0) → (answers : K → V → Bool → Type 0) → Standing
      → (next : ℕ) → Type 0
  WantsNoneUpTo We B answers =
      HoldsUpTo (λ (shard : Shard K V We B L) after. WantsNone answers after shard)

  -- A pair that is shown is a clone of the next item of some shard, behind where the walk came to it;
  -- and there the walk stands afterwards.
  abbrev pub ShowsPair : (We B : Type 0) → (key_clone : K → K → Type 0)
      → (is_clone : V → V → Type 0) → Standing → Option (Result (K × V) Refusal) → Standing → Type 0
  ShowsPair We B key_clone is_clone old answer new = IfSome answer (λ step. IfOk step (λ pair.
      (token : Token) × (after : ℕ) × ComesTo old new.0 after × (new.1 ≡ Some token)
      × FromSome life equal (λ (shard : Shard K V We B L).
      ClonesNext shard after key_clone is_clone (token, pair.0, pair.1))))

  -- A pair that is taken is that of such a step of some shard likewise.
  abbrev pub TakesBy : {We B : Type 0} → (step : Shard K V We B L → (after : ℕ)
      → Option (Token × K × V) → Shard K V We B L → Type 0) → Standing → Option (K × V) → Standing
      → Type 0
  TakesBy {We} {B} step old answer new = IfSome answer (λ pair.
      (token : Token) × (after : ℕ) × ComesTo old new.0 after × (new.1 ≡ Some token)
      × FromSome life equal (λ (shard : Shard K V We B L). (left : Shard K V We B L)
      × step shard after (Some (token, pair.0, pair.1)) left))

  -- it is the next item, which that step took out
  abbrev pub TakesPair : (We B : Type 0) → Standing → Option (K × V) → Standing → Type 0
  TakesPair We B = TakesBy (λ (shard : Shard K V We B L). TakesNext shard)

  -- it is the next item that was wanted
  abbrev pub TakesWantedPair : (We B : Type 0) → (answers : K → V → Bool → Type 0) → Standing
      → Option (K × V) → Standing → Type 0
  TakesWantedPair We B answers =
      TakesBy (λ (shard : Shard K V We B L) after. TakesNextWanted answers after shard)

  -- and fits its key
  abbrev pub ShownFits : (key_clone : K → K → Type 0) (is_clone : V → V → Type 0)
      → Option (Result (K × V) Refusal) → Type 0
  ShownFits key_clone is_clone answer = ClonesAreEqual equal key_clone
      → ClonesFit life.fits is_clone
      → IfSome answer (λ step. IfOk step (λ pair. life.fits pair.0 pair.1))

-- the walk ends only behind the last shard, and what refuses a step is memory
abbrev pub EndsOrRefuses : {X : Type 0} → (shards : ℕ) → Option (Result X Refusal) → Standing
    → Type 0
EndsOrRefuses shards None new = shards ≤ new.0
EndsOrRefuses shards (Some (Ok step)) new = ⊤
EndsOrRefuses shards (Some (Err refusal)) new = refusal ≡ Refusal.Memory

-- a value that is taken fits its key
abbrev pub TakenFits : {K V L S : Type 0} → lifecycle.Ghosts L K V S → Option (K × V) → Type 0
TakenFits life answer =
    IfSome answer (λ pair. life.fits pair.0 pair.1)

-- there are no more items to come than tokens are left in these shards
abbrev pub tokens_ahead : (shards : ℕ) → Standing → Count
tokens_ahead shards at =
    at_most ((shards - at.0) * 4294967296 + (4294967296 - number_or_zero at.1))
