-- The line of a command is text.
use Rattle.std.proofs.Common.{◌≡◌, ℕ, Bool, true, false, cond, List, [], ◌∷◌, ◌++◌, refl, subst, sym, arith}
use Rattle.std.proofs.lemmas.Bool.{false≢true, ltb-true}
use Rattle.std.proofs.lemmas.Fmt.{IsAscii-from_digits}
use Rattle.std.proofs.lemmas.Str.{IsAscii-append, IsUtf8-from_ascii}
use Rattle.std.proofs.lemmas.Str.Ascii.{IsAscii-nil, IsAscii-cons}
use Rattle.std.specs.Prelude.{codes, nat_lt, IsUtf8, IsAscii}
use Rattle.qcrun_parts.specs.Commands.{IsNumber, AreNumbers, IsLineOf, name_of, numbers_of}
use Rattle.qcrun_parts.specs.declared.command.Command.{Command}

-- whether each byte is below 128
abbrev are_low : List ℕ → Bool
are_low [] = true
are_low (c ∷ word) = cond (nat_lt c 128) (are_low word) false

IsAscii-tested_at : (c : ℕ) (word : List ℕ) (low : Bool) → nat_lt c 128 ≡ low
    → cond low (are_low word) false ≡ true
    → (are_low word ≡ true → IsAscii word) → IsAscii (c ∷ word)
IsAscii-tested_at c word true is tested rest =
    IsAscii-cons c word (ltb-true c 128 is) (rest tested)
IsAscii-tested_at c word false is tested rest = absurd (false≢true tested)

IsAscii-tested : (word : List ℕ) → are_low word ≡ true → IsAscii word
IsAscii-tested [] tested = IsAscii-nil
IsAscii-tested (c ∷ word) tested =
    IsAscii-tested_at c word (nat_lt c 128) refl tested (IsAscii-tested word)

-- the name of a command
IsAscii-name : (command : Command) → IsAscii (name_of command)
IsAscii-name (Command.Cache items weight) = IsAscii-tested (codes "cache") refl
IsAscii-name (Command.CacheWithShares items weight hot ghost) = IsAscii-tested (codes "cache") refl
IsAscii-name (Command.CacheWithMark items weight hot ghost mark) =
    IsAscii-tested (codes "cache") refl
IsAscii-name (Command.Insert key value) = IsAscii-tested (codes "insert") refl
IsAscii-name (Command.Replace key value) = IsAscii-tested (codes "replace") refl
IsAscii-name (Command.Soft key value) = IsAscii-tested (codes "soft") refl
IsAscii-name (Command.Get key) = IsAscii-tested (codes "get") refl
IsAscii-name (Command.Peek key) = IsAscii-tested (codes "peek") refl
IsAscii-name (Command.Remove key) = IsAscii-tested (codes "remove") refl
IsAscii-name (Command.RemoveIf key value) = IsAscii-tested (codes "removeif") refl
IsAscii-name (Command.Set key value) = IsAscii-tested (codes "set") refl
IsAscii-name (Command.Poke key value) = IsAscii-tested (codes "poke") refl
IsAscii-name (Command.Load key value) = IsAscii-tested (codes "load") refl
IsAscii-name (Command.Fail key) = IsAscii-tested (codes "fail") refl
IsAscii-name (Command.Guard key value) = IsAscii-tested (codes "guard") refl
IsAscii-name (Command.Drop key) = IsAscii-tested (codes "drop") refl
IsAscii-name (Command.Stats key) = IsAscii-tested (codes "stats") refl
IsAscii-name Command.Clear = IsAscii-tested (codes "clear") refl
IsAscii-name (Command.Capacity weight) = IsAscii-tested (codes "capacity") refl
IsAscii-name Command.Hits = IsAscii-tested (codes "hits") refl
IsAscii-name Command.Show = IsAscii-tested (codes "show") refl

IsAscii-number : (word : List ℕ) (number : ℕ) → IsNumber word number → IsAscii word
IsAscii-number word number is = IsAscii-from_digits word is.0.0.1

-- numbers, each behind a space
IsAscii-numbers : (words numbers : List ℕ) → AreNumbers words numbers → IsAscii words
IsAscii-numbers words [] none = subst IsAscii (sym none) IsAscii-nil
IsAscii-numbers words (number ∷ numbers) are =
    subst IsAscii (sym are.4) (IsAscii-cons 32 (are.0 ++ are.1) (omega arith)
    (IsAscii-append are.0 are.1 (IsAscii-number are.0 number are.2)
    (IsAscii-numbers are.1 numbers are.3)))

IsAscii-line : (line : List ℕ) (command : Command) → IsLineOf line command → IsAscii line
IsAscii-line line command is =
    subst IsAscii (sym is.1) (IsAscii-append (name_of command) is.0 (IsAscii-name command)
    (IsAscii-numbers is.0 (numbers_of command) is.2))

pub IsUtf8-line : (line : List ℕ) (command : Command) → IsLineOf line command → IsUtf8 line
IsUtf8-line line command is = IsUtf8-from_ascii line (IsAscii-line line command is)
