-- What one answers who is told something.
use Rattle.std.proofs.Common.{◌≡◌, ℕ, Option, Some, None, Err, false, true≢false, ap, inl, inr}
use Rattle.std.specs.Prelude.{IfSome, is_some}
use Rattle.quick_cache_loading.specs.declared.waiting.waited.Waited.{Waited}
use Rattle.quick_cache_loading.specs.Waiters.{IsTold}
use Rattle.quick_cache_model.specs.declared.refusal.Refusal.{Refusal}
use Rattle.quick_cache_guard.specs.Answers.{GivesSo, HasCause, IsAnswered, IsRefusedSo, answer_of, is_timeout, output_of}
use Rattle.quick_cache_guard.specs.Entries.{JoinedSo, HasEntryCause, entry_of}
use Rattle.quick_cache_guard.specs.declared.results.EntryResult.{EntryResult}
use Rattle.quick_cache_guard.specs.declared.results.GuardResult.{GuardResult}

-- of the value that one answers the same is true as of the one that one is told
pub answered : {K V : Type 0} (P : V → Type 0) (R : K → Type 0) (ticket : ℕ) (key : K)
    (told : Waited V) → R key → IsTold ticket P told → IfSome (answer_of key told) (IsAnswered P R)
answered P R ticket key (Waited.Value value) keyed told = told
answered P R ticket key (Waited.Guard share) keyed told = keyed
answered P R ticket key (Waited.Refused why) keyed told = told
answered P R ticket key Waited.Timeout keyed told = tt
answered P R ticket key Waited.Again keyed told = tt

module _ {V S : Type 0} (refuses : Refusal → S → Type 0) where
  -- what one was told as one came, or looked, one was told at all
  refused_so : (Came WasTold : Waited V → Type 0) → ((told : Waited V) → Came told → WasTold told)
      → (why : Refusal) → IsRefusedSo Came refuses why → IsRefusedSo WasTold refuses why
  refused_so Came WasTold was why (inl memory) = inl memory
  refused_so Came WasTold was why (inr (inl refused)) = inr (inl refused)
  refused_so Came WasTold was why (inr (inr is)) = inr (inr (was (Waited.Refused why) is))

  -- an entry call answers as one is told
  pub entry_told_so : (T : Type 0) {K : Type 0} (WasTold : Waited V → Type 0) (key : K) (told : Waited V)
      → WasTold told
      → IfSome (entry_of {T = T} {K = K} (answer_of key told)) (HasEntryCause WasTold refuses)
  entry_told_so T WasTold key (Waited.Value value) is = tt
  entry_told_so T WasTold key (Waited.Guard share) is = tt
  entry_told_so T WasTold key (Waited.Refused why) is = inr (inr is)
  entry_told_so T WasTold key Waited.Timeout is = is
  entry_told_so T WasTold key Waited.Again is = tt

  pub entry_joined_so : {T K G : Type 0} (Came WasTold : Waited V → Type 0)
      → ((told : Waited V) → Came told → WasTold told) → (answer : EntryResult T K V G)
      → HasEntryCause Came refuses answer → HasEntryCause WasTold refuses answer
  entry_joined_so Came WasTold was (EntryResult.Retained told) is = tt
  entry_joined_so Came WasTold was (EntryResult.Removed key value) is = tt
  entry_joined_so Came WasTold was (EntryResult.Replaced guard value) is = tt
  entry_joined_so Came WasTold was (EntryResult.Vacant guard) is = tt
  entry_joined_so Came WasTold was EntryResult.Timeout is = was Waited.Timeout is
  entry_joined_so Came WasTold was (EntryResult.Refused why) is = refused_so Came WasTold was why is

module _ {V S : Type 0} (shows : V → S → Type 0) (refuses : Refusal → S → Type 0) where
  -- one answers as one is told
  pub told_so : {K : Type 0} (WasTold : Waited V → Type 0) (key : K) (told : Waited V)
      → WasTold told → HasCause WasTold shows refuses (answer_of key told)
  told_so WasTold key (Waited.Value value) is = inr is
  told_so WasTold key (Waited.Guard share) is = tt
  told_so WasTold key (Waited.Refused why) is = inr (inr is)
  told_so WasTold key Waited.Timeout is = is
  told_so WasTold key Waited.Again is = is

  -- what has its cause by what one was told as one came has it by what one was told at all
  pub joined_so : {G : Type 0} (Came WasTold : Waited V → Type 0)
      → ((told : Waited V) → Came told → WasTold told) → (told : Option (GuardResult V G))
      → HasCause Came shows refuses told → HasCause WasTold shows refuses told
  joined_so Came WasTold was None is = was Waited.Again is
  joined_so Came WasTold was (Some (GuardResult.Value value)) (inl shown) = inl shown
  joined_so Came WasTold was (Some (GuardResult.Value value)) (inr is) =
      inr (was (Waited.Value value) is)
  joined_so Came WasTold was (Some (GuardResult.Guard guard)) is = tt
  joined_so Came WasTold was (Some (GuardResult.Refused why)) is =
      refused_so refuses Came WasTold was why is
  joined_so Came WasTold was (Some GuardResult.Timeout) is = was Waited.Timeout is

  -- an entry call that joins wants no value, and looks again only where it was told so
  pub entry_joined : (T : Type 0) {G : Type 0} (WasTold : Waited V → Type 0) (R : G → Type 0)
      (told : Option (GuardResult V G)) → IfSome told (IsAnswered (λ value. ⊥) R)
      → HasCause WasTold shows refuses told
      → JoinedSo WasTold refuses {W = Unit {0}} {T = T} {K = G} (Err (entry_of told))
  entry_joined T WasTold R None answers is = is
  entry_joined T WasTold R (Some (GuardResult.Value value)) none is = absurd none
  entry_joined T WasTold R (Some (GuardResult.Guard guard)) answers is = tt
  entry_joined T WasTold R (Some (GuardResult.Refused why)) answers is = is
  entry_joined T WasTold R (Some GuardResult.Timeout) answers is = is

  -- with no time limit, one who has no output was told to look again
  pub no_output : {G : Type 0} (WasTold : Waited V → Type 0) (told : Option (GuardResult V G))
      → HasCause WasTold shows refuses told → IfSome told (λ answer. is_timeout answer ≡ false)
      → output_of told ≡ None → WasTold Waited.Again
  no_output WasTold None is timely none = is
  no_output WasTold (Some (GuardResult.Value value)) is timely none = absurd (true≢false (ap is_some none))
  no_output WasTold (Some (GuardResult.Guard guard)) is timely none = absurd (true≢false (ap is_some none))
  no_output WasTold (Some (GuardResult.Refused why)) is timely none = absurd (true≢false (ap is_some none))
  no_output WasTold (Some GuardResult.Timeout) is timely none = absurd (true≢false timely)

  -- an output has the cause of its answer
  pub output_so : {G : Type 0} (WasTold : Waited V → Type 0) (told : Option (GuardResult V G))
      → HasCause WasTold shows refuses told
      → IfSome (output_of told) (GivesSo WasTold shows refuses)
  output_so WasTold None is = tt
  output_so WasTold (Some (GuardResult.Value value)) is = is
  output_so WasTold (Some (GuardResult.Guard guard)) is = tt
  output_so WasTold (Some (GuardResult.Refused why)) is = is
  output_so WasTold (Some GuardResult.Timeout) is = tt
