-- How the error of a call that does not wait reads, and of which kind it is as an error of input and
-- output.
use Rattle.std.specs.Prelude.{ℕ, List, codes}
use Rattle.std.specs.declared.io.ErrorKind.{ErrorKind}
use Rattle.quick_cache_model.specs.RefusalTexts.{refusal_text, refusal_kind}
use Rattle.quick_cache_sync.specs.declared.error.TryError.{TryError}

-- how it reads
abbrev pub try_error_text : TryError → List ℕ
try_error_text (TryError.Contended contention) = codes "Lock Contention"
try_error_text (TryError.Refused refusal) = refusal_text refusal

-- which kind of error it is
abbrev pub try_error_kind : TryError → ErrorKind
try_error_kind (TryError.Contended contention) = ErrorKind.WouldBlock
try_error_kind (TryError.Refused refusal) = refusal_kind refusal
