-- A look-up that makes a placeholder where no key is found, and what it answers.
use Rattle.std.specs.Prelude.{◌≡◌, ℕ, Bool, false, Result, Ok, Err, Some}
use Rattle.std.specs.List.{AllByRecursion}
use Rattle.std.specs.Int.NonZero.{non_zero_u32_get}
use Rattle.std.specs.declared.num.NonZeroU32.{NonZeroU32 as Token}
use Rattle.quick_cache_model.specs.declared.refusal.Refusal.{Refusal}
use Rattle.quick_cache_model.specs.CacheState.{CacheState, UpToOrder}
use Rattle.quick_cache_model.specs.Lookups.{LooksUp}
use Rattle.quick_cache_shard.specs.Shard.{Shard, HasTokenUnder}
pub use Rattle.quick_cache_policy.specs.Loading.{BeginsLoad, IsMade, IsMadeUnder, IsMadeOrMet, MakesNone}

module _ {K V P : Type 0} (own_ticket : P → ℕ) (stands_for : K → Bool) (gives : K → Type 0)
    (hash : ℕ) (old : CacheState K V) where
  -- An item was found and looked up. Or a placeholder is the answer, which was made or met. Or none
  -- was made, and nothing changed.
  abbrev pub LooksUpOrMakes : Result (Result Token (P × Bool)) Refusal → CacheState K V → Type 0
  LooksUpOrMakes (Ok (Ok token)) new =
      (value : V) × UpToOrder (LooksUp stands_for old (λ item. item.value) (Some value)) new
  LooksUpOrMakes (Ok (Err begun)) new =
      IsMadeOrMet stands_for gives hash old begun.1 (own_ticket begun.0) new
  LooksUpOrMakes (Err refusal) new = MakesNone stands_for gives hash old refusal new

-- where an item was found, the token is where it stands now
abbrev pub FindsToken : {K V We B L P : Type 0} → (stands_for : K → Bool) → Shard K V We B L
    → Result (Result Token (P × Bool)) Refusal → Type 0
FindsToken stands_for new (Ok (Ok token)) =
    HasTokenUnder stands_for new (non_zero_u32_get token)
FindsToken stands_for new (Ok (Err begun)) = Unit {0}
FindsToken stands_for new (Err refusal) = Unit {0}

-- a placeholder is meant where its ticket is wanted
abbrev pub MeansByTicket : {P : Type 0} → (ticket_of : P → ℕ) → (means : P → Bool)
    → (wanted : ℕ → Bool) → Type 0
MeansByTicket {P} ticket_of means wanted = (kept : P) → means kept ≡ wanted (ticket_of kept)

-- no key is being loaded by a ticket that is wanted
abbrev pub HasNoneWanted : {K V : Type 0} → (wanted : ℕ → Bool) → CacheState K V → Type 0
HasNoneWanted wanted state = AllByRecursion (λ entry. wanted entry.ticket ≡ false) state.loading
