-- What an entry call answers.
use Rattle.std.specs.Prelude.{◌≡◌, ◌⊎◌, ⊤, Bool, true, false, Option, Some, None, Result, Ok, Err}
use Rattle.quick_cache_loading.specs.Waiters.{IsLoadRefusal}
use Rattle.quick_cache_loading.specs.declared.waiting.waited.Waited.{Waited}
use Rattle.quick_cache_guard.specs.declared.results.GuardResult.{GuardResult}
use Rattle.quick_cache_guard.specs.declared.results.EntryResult.{EntryResult}
use Rattle.quick_cache_model.specs.declared.calls.entry.EntryAction.{EntryAction}
use Rattle.quick_cache_model.specs.declared.refusal.Refusal.{Refusal}
use Rattle.quick_cache_guard.specs.Answers.{IsRefusedSo}
use Rattle.quick_cache_guard.specs.Acts.{Chooses, KeepsReplaced}

module _ {T K V G : Type 0} where
  -- of a value that is given back this is true
  abbrev pub IfGivenBack : EntryResult T K V G → (V → Type 0) → Type 0
  IfGivenBack (EntryResult.Removed key value) P = P value
  IfGivenBack (EntryResult.Replaced guard value) P = P value
  IfGivenBack _ P = ⊤

  -- of what the callback told this is true
  abbrev pub IfRetained : EntryResult T K V G → (T → Type 0) → Type 0
  IfRetained (EntryResult.Retained told) P = P told
  IfRetained _ P = ⊤

  -- of a guard, which is seen as its key, this is true
  abbrev pub IfGuarded : EntryResult T K V G → (G → Type 0) → Type 0
  IfGuarded (EntryResult.Replaced guard value) P = P guard
  IfGuarded (EntryResult.Vacant guard) P = P guard
  IfGuarded _ P = ⊤

  -- it is refused only for what a load may be refused for
  abbrev pub IsRefusedAsLoad : EntryResult T K V G → Type 0
  IsRefusedAsLoad (EntryResult.Refused refusal) = IsLoadRefusal refusal
  IsRefusedAsLoad _ = ⊤

  -- the time was over
  abbrev pub is_late : EntryResult T K V G → Bool
  is_late EntryResult.Timeout = true
  is_late _ = false

-- what an entry call answers, where one who asks for a value answers this; nothing where it came
abbrev pub entry_of : {T K V G : Type 0} → Option (GuardResult V G) → Option (EntryResult T K V G)
entry_of (Some (GuardResult.Value value)) = None
entry_of (Some (GuardResult.Guard guard)) = Some (EntryResult.Vacant guard)
entry_of (Some GuardResult.Timeout) = Some EntryResult.Timeout
entry_of (Some (GuardResult.Refused refusal)) = Some (EntryResult.Refused refusal)
entry_of None = None

-- of one who came to the shard: what it answers, where it neither waits nor looks again
abbrev pub IfAnswered : {W E : Type 0} → Result W (Option E) → (E → Type 0) → Type 0
IfAnswered (Err (Some answer)) P = P answer
IfAnswered (Err None) P = ⊤
IfAnswered (Ok waiting) P = ⊤

-- What one is told at a placeholder, and why some shard refuses, are the causes of what one answers
-- who acts on an entry, and of looking again. The rest is what the callback chose, or a guard.
module _ {V S : Type 0} (WasTold : Waited V → Type 0) (refuses : Refusal → S → Type 0) where
  abbrev pub HasEntryCause : {T K G : Type 0} → EntryResult T K V G → Type 0
  HasEntryCause EntryResult.Timeout = WasTold Waited.Timeout
  HasEntryCause (EntryResult.Refused refusal) = IsRefusedSo WasTold refuses refusal
  HasEntryCause _ = ⊤

  -- the same of one who came to the shard
  abbrev pub JoinedSo : {W T K G : Type 0} → Result W (Option (EntryResult T K V G)) → Type 0
  JoinedSo (Ok waiting) = ⊤
  JoinedSo (Err None) = WasTold Waited.Again
  JoinedSo (Err (Some answer)) = HasEntryCause answer

-- where the callback was not called, this is true: where one waits, looks again, is too late, or gets
-- the right to load a key that has no entry
abbrev pub IfUncalled : {W T K V G : Type 0} → Result W (Option (EntryResult T K V G)) → Type 0
    → Type 0
IfUncalled (Ok waiting) P = P
IfUncalled (Err None) P = P
IfUncalled (Err (Some EntryResult.Timeout)) P = P
IfUncalled (Err (Some (EntryResult.Vacant guard))) P = P
IfUncalled (Err (Some _)) P = ⊤

module _ {K V T : Type 0} (leaves : K → V → EntryAction T → V → Type 0)
    (fits : K → V → Type 0) (stands_for : K → Bool) where
  -- What an entry call answers is what the callback chose, by its one call. Where no item was acted
  -- on it was not called. A value whose place no guard could be had for is given back as removed,
  -- with a key that the query stands for.
  abbrev pub AnswersAsChosen : {G : Type 0} → (uncalled : Type 0) → EntryResult T K V G → Type 0
  AnswersAsChosen uncalled (EntryResult.Retained told) =
      (key : K) × (left : V) × Chooses leaves fits stands_for (EntryAction.Retain told) key left
  AnswersAsChosen uncalled (EntryResult.Removed key value) =
      Chooses leaves fits stands_for EntryAction.Remove key value
      ⊎ ((stands_for key ≡ true)
      × ((shown : K) × Chooses leaves fits stands_for EntryAction.ReplaceWithGuard shown value))
  AnswersAsChosen uncalled (EntryResult.Replaced guard value) =
      (key : K) × Chooses leaves fits stands_for EntryAction.ReplaceWithGuard key value
  AnswersAsChosen uncalled (EntryResult.Vacant guard) = uncalled
  AnswersAsChosen uncalled EntryResult.Timeout = uncalled
  AnswersAsChosen uncalled (EntryResult.Refused refusal) =
      uncalled ⊎ KeepsReplaced leaves fits stands_for
