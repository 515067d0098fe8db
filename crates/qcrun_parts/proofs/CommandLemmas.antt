-- A line is split in one way, and it is the line of one command at most.
use Rattle.std.proofs.Common.{◌≡◌, ◌≢◌, ◌<◌, ◌≤◌, ◌⊎◌, inl, inr, ⊎_elim, ℕ, zero, suc, Bool, true, false, cond, eqb, List, [], ◌∷◌, ◌++◌}
use Rattle.std.proofs.Common.{length, get_or, Result, Ok, Err, refl, sym, ap, ◌∙◌, subst, arith}
use Rattle.std.proofs.Math.Seq.{get_or-append_seam}
use Rattle.std.proofs.lemmas.List.{append-nil, length-append}
use Rattle.std.proofs.lemmas.Bool.{false≢true}
use Rattle.std.specs.Char.{digit_value}
use Rattle.std.specs.Prelude.{codes, IsErr}
use Rattle.std.specs.Str.Parse.{AllDigits}
use Rattle.qcrun_parts.specs.Commands.{IsNumber, AreNumbers, HasGhosts, HasMore, HasNumbers, IsLineOf, HasSharesInRange, IsOkExactly}
use Rattle.qcrun_parts.specs.Commands.{name_of, numbers_of}
use Rattle.qcrun_parts.specs.declared.command.Command.{Command}

pub IsOkExactly-err : {X E : Type 0} (P : X → Type 0) (answer : Result X E) → IsErr answer
    → ((other : X) → P other → ⊥)
    → IsOkExactly answer P
IsOkExactly-err P (Ok value) is none = absurd cc
IsOkExactly-err P (Err error) is none =
    λ other. ((λ holds. absurd (none other holds)), (λ same. absurd cc))

-- two words with one space between
abbrev pub spaced : List ℕ → List ℕ → List ℕ
spaced first second = first ++ 32 ∷ second

-- no space stands in the word
abbrev pub LacksSpace : List ℕ → Type 0
LacksSpace word = (k : ℕ) → k < length word → get_or word k 0 ≢ 32

LacksSpace-tail : (c : ℕ) (word : List ℕ) → LacksSpace (c ∷ word) → LacksSpace word
LacksSpace-tail c word lacks k inside = lacks (suc k) (omega (arith, inside))

LacksSpace-cons : (c : ℕ) (word : List ℕ) → c ≢ 32 → LacksSpace word → LacksSpace (c ∷ word)
LacksSpace-cons c word other lacks zero inside = other
LacksSpace-cons c word other lacks (suc k) inside = lacks k (omega (arith, inside))

LacksSpace-nil : LacksSpace []
LacksSpace-nil k inside = absurd (omega (arith, inside))

-- two words with a space between have a space
spaced-has_space : (first second : List ℕ) → LacksSpace (spaced first second) → ⊥
spaced-has_space first second lacks =
    lacks (length first) (omega (arith, length-append first (32 ∷ second)))
    (get_or-append_seam first 32 second 0)

-- Where two pairs of words make one line, and the first words have no space, they are the same
-- pair.
spaced-same : (first second third fourth : List ℕ) → LacksSpace first → LacksSpace third
    → spaced first second ≡ spaced third fourth → (first ≡ third) × (second ≡ fourth)
spaced-same [] second [] fourth lacks lacks_too same = (refl, cc)
spaced-same [] second (d ∷ third) fourth lacks lacks_too same =
    absurd (lacks_too 0 (omega arith) cc)
spaced-same (c ∷ first) second [] fourth lacks lacks_too same = absurd (lacks 0 (omega arith) cc)
spaced-same (c ∷ first) second (d ∷ third) fourth lacks lacks_too same =
    let rest = spaced-same first second third fourth (LacksSpace-tail c first lacks)
    (LacksSpace-tail d third lacks_too) cc in
    let head : c ≡ d = cc in
    (rw head (ap (λ word. d ∷ word) rest.0), rest.1)

-- digits are no spaces
AllDigits-lacks_space : (word : List ℕ) → AllDigits 10 word → LacksSpace word
AllDigits-lacks_space [] digits = LacksSpace-nil
AllDigits-lacks_space (c ∷ word) digits =
    LacksSpace-cons c word (λ space. absurd
    (omega (arith, subst (λ d. digit_value d < 10) space digits.0)))
    (AllDigits-lacks_space word digits.1)

-- whether no space stands in the word
abbrev lacks_space : List ℕ → Bool
lacks_space [] = true
lacks_space (c ∷ word) = cond (eqb c 32) false (lacks_space word)

LacksSpace-tested_at : (c : ℕ) (word : List ℕ) (is_space : Bool) → eqb c 32 ≡ is_space
    → cond is_space false (lacks_space word) ≡ true
    → (lacks_space word ≡ true → LacksSpace word) → LacksSpace (c ∷ word)
LacksSpace-tested_at c word true is tested rest = absurd (false≢true tested)
LacksSpace-tested_at c word false is tested rest =
    LacksSpace-cons c word (λ same. absurd (false≢true (sym is ∙ ap (λ d. eqb d 32) same)))
    (rest tested)

LacksSpace-tested : (word : List ℕ) → lacks_space word ≡ true → LacksSpace word
LacksSpace-tested [] tested = LacksSpace-nil
LacksSpace-tested (c ∷ word) tested =
    LacksSpace-tested_at c word (eqb c 32) refl tested (LacksSpace-tested word)

-- no command's name has a space
name_of-lacks_space : (command : Command) → LacksSpace (name_of command)
name_of-lacks_space (Command.Cache items weight) = LacksSpace-tested (codes "cache") refl
name_of-lacks_space (Command.CacheWithShares items weight hot ghost) =
    LacksSpace-tested (codes "cache") refl
name_of-lacks_space (Command.CacheWithMark items weight hot ghost mark) =
    LacksSpace-tested (codes "cache") refl
name_of-lacks_space (Command.Insert key value) = LacksSpace-tested (codes "insert") refl
name_of-lacks_space (Command.Replace key value) = LacksSpace-tested (codes "replace") refl
name_of-lacks_space (Command.Soft key value) = LacksSpace-tested (codes "soft") refl
name_of-lacks_space (Command.Get key) = LacksSpace-tested (codes "get") refl
name_of-lacks_space (Command.Peek key) = LacksSpace-tested (codes "peek") refl
name_of-lacks_space (Command.Remove key) = LacksSpace-tested (codes "remove") refl
name_of-lacks_space (Command.RemoveIf key value) = LacksSpace-tested (codes "removeif") refl
name_of-lacks_space (Command.Set key value) = LacksSpace-tested (codes "set") refl
name_of-lacks_space (Command.Poke key value) = LacksSpace-tested (codes "poke") refl
name_of-lacks_space (Command.Load key value) = LacksSpace-tested (codes "load") refl
name_of-lacks_space (Command.Fail key) = LacksSpace-tested (codes "fail") refl
name_of-lacks_space (Command.Guard key value) = LacksSpace-tested (codes "guard") refl
name_of-lacks_space (Command.Drop key) = LacksSpace-tested (codes "drop") refl
name_of-lacks_space (Command.Stats key) = LacksSpace-tested (codes "stats") refl
name_of-lacks_space Command.Clear = LacksSpace-tested (codes "clear") refl
name_of-lacks_space (Command.Capacity weight) = LacksSpace-tested (codes "capacity") refl
name_of-lacks_space Command.Hits = LacksSpace-tested (codes "hits") refl
name_of-lacks_space Command.Show = LacksSpace-tested (codes "show") refl

-- it has two numbers at most, or four or five
numbers_of-count : (command : Command) → (length (numbers_of command) ≤ 2)
    ⊎ ((4 ≤ length (numbers_of command)) × (length (numbers_of command) ≤ 5))
numbers_of-count (Command.Cache items weight) = inl (omega arith)
numbers_of-count (Command.CacheWithShares items weight hot ghost) = inr (omega arith, omega arith)
numbers_of-count (Command.CacheWithMark items weight hot ghost mark) =
    inr (omega arith, omega arith)
numbers_of-count (Command.Insert key value) = inl (omega arith)
numbers_of-count (Command.Replace key value) = inl (omega arith)
numbers_of-count (Command.Soft key value) = inl (omega arith)
numbers_of-count (Command.Get key) = inl (omega arith)
numbers_of-count (Command.Peek key) = inl (omega arith)
numbers_of-count (Command.Remove key) = inl (omega arith)
numbers_of-count (Command.RemoveIf key value) = inl (omega arith)
numbers_of-count (Command.Set key value) = inl (omega arith)
numbers_of-count (Command.Poke key value) = inl (omega arith)
numbers_of-count (Command.Load key value) = inl (omega arith)
numbers_of-count (Command.Fail key) = inl (omega arith)
numbers_of-count (Command.Guard key value) = inl (omega arith)
numbers_of-count (Command.Drop key) = inl (omega arith)
numbers_of-count (Command.Stats key) = inl (omega arith)
numbers_of-count Command.Clear = inl (omega arith)
numbers_of-count (Command.Capacity weight) = inl (omega arith)
numbers_of-count Command.Hits = inl (omega arith)
numbers_of-count Command.Show = inl (omega arith)

-- another way to say of which values an answer is Ok
pub IsOkExactly-as : {X E : Type 0} (answer : Result X E) (P Q : X → Type 0)
    → ((value : X) → P value → Q value) → ((value : X) → Q value → P value)
    → IsOkExactly answer P → IsOkExactly answer Q
IsOkExactly-as answer P Q there back exact =
    λ value. (λ holds. (exact value).0 (back value holds), λ is. there value ((exact value).1 is))

module _ (line name words : List ℕ) (split : line ≡ spaced name words) (lacks : LacksSpace name)
  where
    -- a line that is split at its first space is a name and numbers behind it
    pub IsLineOf-split : (command : Command) → IsLineOf line command
        → (name ≡ name_of command) × AreNumbers (32 ∷ words) (numbers_of command)
    IsLineOf-split command is = go (numbers_of command) is.2
      where
        go : (numbers : List ℕ) → AreNumbers is.0 numbers
            → (name ≡ name_of command) × AreNumbers (32 ∷ words) numbers
        go [] none =
            absurd (spaced-has_space name words (subst LacksSpace
            (sym (is.1 ∙ ap (λ (more : List ℕ). name_of command ++ more) none
            ∙ append-nil (name_of command)) ∙ split) (name_of-lacks_space command)))
        go (number ∷ numbers) are =
            let same = spaced-same name words (name_of command) (are.0 ++ are.1) lacks
            (name_of-lacks_space command)
            (sym split ∙ is.1 ∙ ap (λ (more : List ℕ). name_of command ++ more) are.4) in
            (same.0, (are.0, are.1, are.2, are.3, ap (λ (more : List ℕ). 32 ∷ more) same.1))

    -- and the other way round
    pub IsLineOf-joined : (command : Command) → name ≡ name_of command
        → AreNumbers (32 ∷ words) (numbers_of command) → HasSharesInRange command
        → IsLineOf line command
    IsLineOf-joined command named are range =
        (32 ∷ words, split ∙ ap (λ (n : List ℕ). spaced n words) named, are, range)

-- a number has no space
pub IsNumber-lacks_space : (word : List ℕ) (number : ℕ) → IsNumber word number → LacksSpace word
IsNumber-lacks_space word number is = AllDigits-lacks_space word is.0.0.1

-- one word is one number
pub AreNumbers-one : (words : List ℕ) → LacksSpace words → (numbers : List ℕ)
    → AreNumbers (32 ∷ words) numbers
    → (number : ℕ) × IsNumber words number × (numbers ≡ number ∷ [])
AreNumbers-one words lacks [] are = absurd (omega (arith, ap length are))
AreNumbers-one words lacks (number ∷ []) are =
    let same : words ≡ are.0 = (let tail : words ≡ are.0 ++ are.1 = cc in
    tail ∙ ap (λ (rest : List ℕ). are.0 ++ rest) are.3 ∙ append-nil are.0) in
    (number, subst (λ (word : List ℕ). IsNumber word number) (sym same) are.2, refl)
AreNumbers-one words lacks (number ∷ other ∷ numbers) are =
    let tail : words ≡ are.0 ++ are.1 = cc in
    absurd (spaced-has_space are.0 (are.3.0 ++ are.3.1)
    (subst LacksSpace (tail ∙ ap (λ (rest : List ℕ). are.0 ++ rest) are.3.4) lacks))

-- the number of one word
pub AreNumbers-of_one : (words : List ℕ) (number : ℕ) → IsNumber words number
    → AreNumbers (32 ∷ words) (number ∷ [])
AreNumbers-of_one words number is =
    (words, [], is, refl, ap (λ (w : List ℕ). 32 ∷ w) (sym (append-nil words)))

module _ (words first second : List ℕ) (split : words ≡ spaced first second)
    (lacks : LacksSpace first) where
  -- behind a first word there is a second number
  pub AreNumbers-two : (numbers : List ℕ) → AreNumbers (32 ∷ words) numbers
      → (number : ℕ) × (rest : List ℕ) × IsNumber first number × AreNumbers (32 ∷ second) rest
      × (numbers ≡ number ∷ rest)
  AreNumbers-two [] are = absurd (omega (arith, ap length are))
  AreNumbers-two (number ∷ []) are =
      let tail : words ≡ are.0 ++ are.1 = cc in
      absurd (spaced-has_space first second (subst LacksSpace
      (sym (tail ∙ ap (λ (rest : List ℕ). are.0 ++ rest) are.3 ∙ append-nil are.0) ∙ split)
      (IsNumber-lacks_space are.0 number are.2)))
  AreNumbers-two (number ∷ other ∷ numbers) are =
      let tail : words ≡ are.0 ++ are.1 = cc in
      let same = spaced-same are.0 (are.3.0 ++ are.3.1) first second
      (IsNumber-lacks_space are.0 number are.2) lacks
      (sym (tail ∙ ap (λ (rest : List ℕ). are.0 ++ rest) are.3.4) ∙ split) in (
        number,
        other ∷ numbers,
        subst (λ (word : List ℕ). IsNumber word number) same.0 are.2,
        (
          are.3.0,
          are.3.1,
          are.3.2,
          are.3.3,
          ap (λ (more : List ℕ). 32 ∷ more) (sym same.1),
        ),
        refl,
      )

  -- and where numbers stand behind that word, so do they with its own
  pub AreNumbers-more : (number : ℕ) (numbers : List ℕ) → IsNumber first number
      → AreNumbers (32 ∷ second) numbers
      → AreNumbers (32 ∷ words) (number ∷ numbers)
  AreNumbers-more number numbers is are =
      (first, 32 ∷ second, is, are, ap (λ (more : List ℕ). 32 ∷ more) split)

-- where one number may stand, the words are one
pub AreNumbers-last : (words numbers : List ℕ) → length numbers ≤ 1
    → AreNumbers (32 ∷ words) numbers
    → (number : ℕ) × IsNumber words number × (numbers ≡ number ∷ [])
AreNumbers-last words [] few are = absurd (omega (arith, ap length are))
AreNumbers-last words (number ∷ []) few are =
    let tail : words ≡ are.0 ++ are.1 = cc in
    let same : words ≡ are.0 =
    tail ∙ ap (λ (rest : List ℕ). are.0 ++ rest) are.3 ∙ append-nil are.0 in
    (number, subst (λ (word : List ℕ). IsNumber word number) (sym same) are.2, refl)
AreNumbers-last words (number ∷ other ∷ numbers) few are = absurd (omega (arith, few))

-- The words behind a first number are two or more.
module _ (name : List ℕ) (first : ℕ) (words second shares : List ℕ)
    (split : words ≡ spaced second shares) (lacks : LacksSpace second) where
  -- the first of them is a second number
  pub HasMore-second : (command : Command) → HasMore name first words command
      → (number : ℕ) × IsNumber second number
  HasMore-second command more =
      let two = AreNumbers-two words second shares split lacks more.0 more.2 in
      (two.0, two.2)

  -- two words are not all of them
  pub HasMore-not_two : LacksSpace shares → (command : Command) → HasMore name first words command
      → ⊥
  HasMore-not_two whole command more =
      let two = AreNumbers-two words second shares split lacks more.0 more.2 in
      let one = AreNumbers-one shares whole two.1 two.3 in
      let count : length (numbers_of command) ≡ 3 =
      ap length (sym more.1.1 ∙ ap (λ (ns : List ℕ). first ∷ ns) (two.4
      ∙ ap (λ (ns : List ℕ). two.0 ∷ ns) one.2)) in
      ⊎_elim (λ few. absurd (omega (arith, few, count)))
      (λ four. absurd (omega (arith, four.0, count))) (numbers_of-count command)

  -- and behind them stands a share, with more behind it
  module _ (hot ghosts : List ℕ) (splits : shares ≡ spaced hot ghosts) (lacks_too : LacksSpace hot)
    where
      pub HasMore-shares : (command : Command) → HasMore name first words command
          → (a b : ℕ) × IsNumber second a × IsNumber hot b × HasGhosts name first a b ghosts command
      HasMore-shares command more =
          let two = AreNumbers-two words second shares split lacks more.0 more.2 in
          let three = AreNumbers-two shares hot ghosts splits lacks_too two.1 two.3 in
          let of : numbers_of command ≡ first ∷ two.0 ∷ three.0 ∷ three.1 =
          sym more.1.1 ∙ ap (λ (ns : List ℕ). first ∷ ns) (two.4
          ∙ ap (λ (ns : List ℕ). two.0 ∷ ns) three.4) in (
            two.0,
            three.0,
            two.2,
            three.2,
            (three.1, (more.1.0, sym of, more.1.2), three.3),
          )

      pub HasMore-of_shares : (a b : ℕ) → IsNumber second a → IsNumber hot b
          → (command : Command) → HasGhosts name first a b ghosts command
          → HasMore name first words command
      HasMore-of_shares a b is_a is_b command has = (
        a ∷ b ∷ has.0,
        has.1,
        AreNumbers-more words second shares split lacks a (b ∷ has.0) is_a
            (AreNumbers-more shares hot ghosts splits lacks_too b has.0 is_b has.2),
      )

-- The words behind three numbers are a share and a mark.
module _ (name : List ℕ) (items weight hot : ℕ) (words ghosts mark : List ℕ)
    (split : words ≡ spaced ghosts mark) (lacks : LacksSpace ghosts) where
  pub HasGhosts-mark : (command : Command) → HasGhosts name items weight hot words command
      → (a b : ℕ) × IsNumber ghosts a × IsNumber mark b
      × HasNumbers name (items ∷ weight ∷ hot ∷ a ∷ b ∷ []) command
  HasGhosts-mark command more =
      let two = AreNumbers-two words ghosts mark split lacks more.0 more.2 in
      let of : numbers_of command ≡ items ∷ weight ∷ hot ∷ two.0 ∷ two.1 =
      sym more.1.1 ∙ ap (λ (ns : List ℕ). items ∷ weight ∷ hot ∷ ns) two.4 in
      let few : length two.1 ≤ 1 =
      ⊎_elim (λ few. omega (arith, few, ap length of))
      (λ five. omega (arith, five.1, ap length of)) (numbers_of-count command) in
      let last = AreNumbers-last mark two.1 few two.3 in (
        two.0,
        last.0,
        two.2,
        last.1,
        (
          more.1.0,
          sym (of ∙ ap (λ (ns : List ℕ). items ∷ weight ∷ hot ∷ two.0 ∷ ns) last.2),
          more.1.2,
        ),
      )

  pub HasGhosts-of_mark : (a b : ℕ) → IsNumber ghosts a → IsNumber mark b
      → (command : Command) → HasNumbers name (items ∷ weight ∷ hot ∷ a ∷ b ∷ []) command
      → HasGhosts name items weight hot words command
  HasGhosts-of_mark a b is_a is_b command has = (
    a ∷ b ∷ [],
    has,
    AreNumbers-more words ghosts mark split lacks a (b ∷ []) is_a (AreNumbers-of_one mark b is_b),
  )
