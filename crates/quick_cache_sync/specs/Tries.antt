-- Calls that do not wait for a lock.
use Rattle.std.specs.Prelude.{⊤, Result, Ok, Err}
use Rattle.quick_cache_model.specs.declared.refusal.Refusal.{Refusal}
use Rattle.quick_cache_sync.specs.declared.error.TryError.{TryError}

-- contention, or an answer of the call that waits
abbrev pub IsTried : {T : Type 0} → (Result T Refusal → Type 0) → Result T TryError → Type 0
IsTried answers (Ok found) = answers (Ok found)
IsTried answers (Err (TryError.Contended _)) = ⊤
IsTried answers (Err (TryError.Refused refusal)) = answers (Err refusal)

-- the same of a call that gives a pair back
abbrev pub IsTriedWith : {K V T : Type 0} → (Result T (K × V × Refusal) → Type 0)
    → Result T (K × V × TryError) → Type 0
IsTriedWith answers (Ok done) = answers (Ok done)
IsTriedWith answers (Err (key, value, TryError.Contended _)) = ⊤
IsTriedWith answers (Err (key, value, TryError.Refused refusal)) =
    answers (Err (key, value, refusal))

-- where there was contention, this holds of the pair that came back
abbrev pub IfContended : {K V T : Type 0} → Result T (K × V × TryError) → (K → V → Type 0) → Type 0
IfContended (Ok done) holds = ⊤
IfContended (Err (key, value, TryError.Contended _)) holds = holds key value
IfContended (Err (key, value, TryError.Refused _)) holds = ⊤
