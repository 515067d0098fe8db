-- The texts of what is wrong with a line.
use Rattle.std.specs.Prelude.{ℕ, List, ◌++◌, codes}
use Rattle.qcrun_parts.specs.declared.fault.Fault.{Fault}

-- the text that is told behind the number of a line
abbrev pub fault_text : Fault → List ℕ
fault_text Fault.NoCache = codes "no cache stands"
fault_text Fault.TooLong = codes "more than 200 bytes"
fault_text Fault.NotText = codes "it is no UTF-8"
fault_text Fault.CarriageReturn = codes "it ends with a carriage return"
fault_text (Fault.Unknown word) = codes "unknown command `" ++ word.now ++ codes "`"
fault_text (Fault.NotNumber word) =
    codes "`" ++ word.now ++ codes "` is no number from 0 to 18446744073709551615"
fault_text (Fault.OtherNumbers form) = codes "it is written `" ++ form.now ++ codes "`"
