-- The lines that are commands.
use Rattle.std.specs.Prelude.{◌≡◌, ◌↔◌, ⊤, Result, Ok, ℕ, ◌^◌, ◌<◌, ◌≤◌, List, [], ◌∷◌, ◌++◌, length, codes}
use Rattle.std.specs.Str.Parse.{IsNumeral, digits_value}
use Rattle.qcrun_parts.specs.declared.command.Command.{Command}

-- one to twenty decimal digits, of at most the greatest u64
abbrev pub IsNumeralInRange : List ℕ → Type 0
IsNumeralInRange word = IsNumeral 10 word × (length word ≤ 20) × (digits_value 10 word < 2 ^ 64)

-- The answer is Ok of a value exactly where P holds of that value. So it is Err exactly where P
-- holds of none.
abbrev pub IsOkExactly : {X E : Type 0} → Result X E → (X → Type 0) → Type 0
IsOkExactly {X} answer P = (value : X) → P value ↔ (answer ≡ Ok value)

-- the word writes this number
abbrev pub IsNumber : List ℕ → ℕ → Type 0
IsNumber word number = IsNumeralInRange word × (digits_value 10 word ≡ number)

-- words write these numbers, each behind a space
abbrev pub AreNumbers : List ℕ → List ℕ → Type 0
AreNumbers words [] = words ≡ []
AreNumbers words (number ∷ numbers) = (word : List ℕ) × (rest : List ℕ) × IsNumber word number
    × AreNumbers rest numbers × (words ≡ 32 ∷ word ++ rest)

-- the name of a command
abbrev pub name_of : Command → List ℕ
name_of (Command.Cache items weight) = codes "cache"
name_of (Command.CacheWithShares items weight hot ghost) = codes "cache"
name_of (Command.CacheWithMark items weight hot ghost mark) = codes "cache"
name_of (Command.Insert key value) = codes "insert"
name_of (Command.Replace key value) = codes "replace"
name_of (Command.Soft key value) = codes "soft"
name_of (Command.Get key) = codes "get"
name_of (Command.Peek key) = codes "peek"
name_of (Command.Remove key) = codes "remove"
name_of (Command.RemoveIf key value) = codes "removeif"
name_of (Command.Set key value) = codes "set"
name_of (Command.Poke key value) = codes "poke"
name_of (Command.Load key value) = codes "load"
name_of (Command.Fail key) = codes "fail"
name_of (Command.Guard key value) = codes "guard"
name_of (Command.Drop key) = codes "drop"
name_of (Command.Stats key) = codes "stats"
name_of Command.Clear = codes "clear"
name_of (Command.Capacity weight) = codes "capacity"
name_of Command.Hits = codes "hits"
name_of Command.Show = codes "show"

-- the numbers behind its name
abbrev pub numbers_of : Command → List ℕ
numbers_of (Command.Cache items weight) = items ∷ weight ∷ []
numbers_of (Command.CacheWithShares items weight hot ghost) = items ∷ weight ∷ hot ∷ ghost ∷ []
numbers_of (Command.CacheWithMark items weight hot ghost mark) =
    items ∷ weight ∷ hot ∷ ghost ∷ mark ∷ []
numbers_of (Command.Insert key value) = key ∷ value ∷ []
numbers_of (Command.Replace key value) = key ∷ value ∷ []
numbers_of (Command.Soft key value) = key ∷ value ∷ []
numbers_of (Command.Get key) = key ∷ []
numbers_of (Command.Peek key) = key ∷ []
numbers_of (Command.Remove key) = key ∷ []
numbers_of (Command.RemoveIf key value) = key ∷ value ∷ []
numbers_of (Command.Set key value) = key ∷ value ∷ []
numbers_of (Command.Poke key value) = key ∷ value ∷ []
numbers_of (Command.Load key value) = key ∷ value ∷ []
numbers_of (Command.Fail key) = key ∷ []
numbers_of (Command.Guard key value) = key ∷ value ∷ []
numbers_of (Command.Drop key) = key ∷ []
numbers_of (Command.Stats key) = key ∷ []
numbers_of Command.Clear = []
numbers_of (Command.Capacity weight) = weight ∷ []
numbers_of Command.Hits = []
numbers_of Command.Show = []

-- a share is of at most the greatest u32, and a mark of at most the greatest u8
abbrev pub HasSharesInRange : Command → Type 0
HasSharesInRange (Command.CacheWithShares items weight hot ghost) = (hot < 2 ^ 32)
    × (ghost < 2 ^ 32)
HasSharesInRange (Command.CacheWithMark items weight hot ghost mark) =
    (hot < 2 ^ 32) × (ghost < 2 ^ 32) × (mark < 2 ^ 8)
HasSharesInRange _ = ⊤

-- the command has this name, and these numbers
abbrev pub HasNumbers : (name numbers : List ℕ) → Command → Type 0
HasNumbers name numbers command = (name ≡ name_of command) × (numbers ≡ numbers_of command)
    × HasSharesInRange command

-- the command has this name and this first number, and words write the others, the first of them
-- without a space before it
abbrev pub HasMore : (name : List ℕ) → (first : ℕ) → (words : List ℕ) → Command → Type 0
HasMore name first words command = (numbers : List ℕ) × HasNumbers name (first ∷ numbers) command
    × AreNumbers (32 ∷ words) numbers

-- the command has this name and these three numbers, and words write the others, the first of them
-- without a space before it
abbrev pub HasGhosts : (name : List ℕ) → (items weight hot : ℕ) → (words : List ℕ) → Command
    → Type 0
HasGhosts name items weight hot words command = (numbers : List ℕ)
    × HasNumbers name (items ∷ weight ∷ hot ∷ numbers) command × AreNumbers (32 ∷ words) numbers

-- the line of a command: its name, and its numbers behind it
abbrev pub IsLineOf : List ℕ → Command → Type 0
IsLineOf line command = (words : List ℕ) × (line ≡ name_of command ++ words)
    × AreNumbers words (numbers_of command) × HasSharesInRange command
