-- Calls that make a placeholder where nothing is found, and what they answer.
use Rattle.std.specs.Prelude.{◌≡◌, ℕ, Bool, true, false, Result, Ok, Err}
use Rattle.std.specs.declared.num.NonZeroU32.{NonZeroU32 as Token}
use Rattle.quick_cache_model.specs.declared.refusal.Refusal.{Refusal}
use Rattle.quick_cache_model.specs.CacheState.{CacheState, UpToOrder}
use Rattle.quick_cache_model.specs.Placeholders.{MakesPlaceholder, MeetsPlaceholder}
use Rattle.quick_cache_model.specs.Refusals.{IsProvided, MayRefuse, needs_of_placeholder}
use Rattle.quick_cache_policy.specs.declared.contents.Contents.{Contents}
use Rattle.quick_cache_policy.specs.Contents.{state_of}
use Rattle.quick_cache_policy.specs.Copies.{IsCopyFound, IsNotCopied}
use Rattle.quick_cache_policy.specs.Finding.{IsLookedUp}

-- A placeholder that was made has this hash. Nothing is said of one that was met, or of an item.
abbrev pub IsMadeUnder : {P : Type 0} (hash_of : P → ℕ) (hash : ℕ)
    → Result (Result Token (P × Bool)) Refusal → Type 0
IsMadeUnder hash_of hash (Ok (Ok token)) = Unit {0}
IsMadeUnder hash_of hash (Ok (Err begun)) = begun.1 ≡ true → hash_of begun.0 ≡ hash
IsMadeUnder hash_of hash (Err refusal) = Unit {0}

-- A query is known by the keys that it stands for, by those that it may give, and by its hash.
module _ {K V : Type 0} (stands_for : K → Bool) (gives : K → Type 0) (hash : ℕ)
    (old : CacheState K V) where
  -- a placeholder of this ticket was made, for a key that the query gave
  pub record IsMade (ticket : ℕ) (new : CacheState K V) : Type 0 where
    pub provided : IsProvided (needs_of_placeholder stands_for hash old) old
    pub next : ticket ≡ old.next_ticket
    pub key : K
    pub given : gives key
    pub step : UpToOrder (MakesPlaceholder stands_for old hash key) new

  -- a placeholder of this ticket is the answer: it was made, or else met
  abbrev pub IsMadeOrMet : (made : Bool) → (ticket : ℕ) → CacheState K V → Type 0
  IsMadeOrMet true ticket new = IsMade ticket new
  IsMadeOrMet false ticket new = UpToOrder (MeetsPlaceholder stands_for old ticket) new

  -- none was made, for this reason, and nothing changed
  pub record MakesNone (refusal : Refusal) (new : CacheState K V) : Type 0 where
    pub cause : MayRefuse (needs_of_placeholder stands_for hash old) old refusal
    pub unchanged : new ≡ old

module _ {K V W : Type 0} (own_ticket : W → ℕ) (stands_for : K → Bool) (gives : K → Type 0)
    (hash : ℕ) (is_clone : V → V → Type 0) (old : CacheState K V) where
  -- A load begins. An item was looked up, and a clone of its value is the answer; or the clone
  -- failed, and nothing changed. Else a placeholder is the answer, which was made or met; or none
  -- was made, and nothing changed.
  pub data BeginsLoad : Result (Result V W) Refusal → CacheState K V → Type 0 where
    finds : (copy : V) (new : CacheState K V) → IsCopyFound stands_for is_clone old copy new
        → BeginsLoad (Ok (Ok copy)) new
    lacks_a_clone : (refusal : Refusal) (new : CacheState K V)
        → IsNotCopied stands_for is_clone old refusal new → BeginsLoad (Err refusal) new
    makes_or_meets : (made : Bool) (placeholder : W) (new : CacheState K V)
        → IsMadeOrMet stands_for gives hash old made (own_ticket placeholder) new
        → BeginsLoad (Ok (Err placeholder)) new
    makes_none : (refusal : Refusal) (new : CacheState K V)
        → MakesNone stands_for gives hash old refusal new → BeginsLoad (Err refusal) new

-- what stands in slots has tickets, and the placeholder that is the answer has its own
module _ {K V W P A T : Type 0} (ticket_of : P → ℕ) (own_ticket : W → ℕ) (stands_for : K → Bool)
    (gives : K → Type 0) (hash : ℕ) (old : Contents K V W A T P) where
  -- what a call made of a query under which no key is found
  abbrev pub Makes : Result W Refusal → Contents K V W A T P → Type 0
  Makes (Ok placeholder) new =
      IsMade stands_for gives hash (state_of ticket_of old) (own_ticket placeholder)
      (state_of ticket_of new)
  Makes (Err refusal) new =
      MakesNone stands_for gives hash (state_of ticket_of old) refusal (state_of ticket_of new)

  -- the answer of a look-up that makes a placeholder where no key is found
  abbrev pub LooksUpOrMakes : Result (Result Token (W × Bool)) Refusal → Contents K V W A T P
      → Type 0
  LooksUpOrMakes (Ok (Ok token)) new = IsLookedUp ticket_of stands_for old token new
  LooksUpOrMakes (Ok (Err begun)) new =
      IsMadeOrMet stands_for gives hash (state_of ticket_of old) begun.1 (own_ticket begun.0)
      (state_of ticket_of new)
  LooksUpOrMakes (Err refusal) new =
      MakesNone stands_for gives hash (state_of ticket_of old) refusal (state_of ticket_of new)
