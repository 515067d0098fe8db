-- How a refusal reads, and of which kind it is as an error of input and output.
use Rattle.std.specs.Prelude.{ℕ, List, codes}
use Rattle.std.specs.declared.io.ErrorKind.{ErrorKind}
use Rattle.quick_cache_model.specs.declared.refusal.Refusal.{Refusal}

-- how it reads
abbrev pub refusal_text : Refusal → List ℕ
refusal_text Refusal.Memory = codes "no memory"
refusal_text Refusal.SlotsFull = codes "no slot is left"
refusal_text Refusal.TicketsSpent = codes "no ticket is left"
refusal_text Refusal.Finished = codes "polled after it had answered"

-- which kind of error it is
abbrev pub refusal_kind : Refusal → ErrorKind
refusal_kind Refusal.Memory = ErrorKind.OutOfMemory
refusal_kind Refusal.SlotsFull = ErrorKind.QuotaExceeded
refusal_kind Refusal.TicketsSpent = ErrorKind.Other
refusal_kind Refusal.Finished = ErrorKind.Other
