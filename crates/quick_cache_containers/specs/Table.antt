-- What a contract sees of a `Table`: a set of pairs of a hash and a token.
use Rattle.std.specs.Prelude.{◌≡◌, ℕ, ◌+◌, ◌-◌, min, Bool, true, false, ◌&&◌, ◌||◌, ◌==◌, nat_lt, if◌then◌else◌, IsTrue, List, [], ◌∷◌}
use Rattle.std.specs.Prelude.{length, count_by, Option, Some, None, refl}
use Rattle.std.specs.Bool.{MatchBool}
use Rattle.std.specs.Option.{MatchOption}
use Rattle.std.specs.List.{list_any}
use Rattle.std.specs.Coded.{Coded, code_by, coded×, coded_ℕ, coded_list}
use Rattle.std.specs.Int.NonZero.{non_zero_u32_get}
use Rattle.std.specs.declared.num.NonZeroU32.{NonZeroU32}

-- the pairs, each once and in ascending order, how many more fit with no allocation, and how many
-- bytes are held
pub record Table : Type 0 where
  pub pairs : List (ℕ × ℕ)
  pub room : ℕ
  pub allocated : ℕ

-- a table is stored as the tuple of its fields
abbrev pub table_code : Coded Table
table_code =
    code_by
    (List (ℕ × ℕ) × (ℕ × ℕ))
    (coded× (coded_list (coded× coded_ℕ coded_ℕ)) (coded× coded_ℕ coded_ℕ))
    (λ t. (t.pairs, (t.room, t.allocated)))
    (λ p. record { pairs = p.0; room = p.1.0; allocated = p.1.1 })
    (λ _. refl)

-- the first pair is the lesser: by its hash, or by its token where the hashes are equal
abbrev pub is_less : ℕ × ℕ → ℕ × ℕ → Bool
is_less a b = nat_lt a.0 b.0 || ((a.0 == b.0) && nat_lt a.1 b.1)

-- the pair put behind those that are less
abbrev pub put_in : ℕ × ℕ → List (ℕ × ℕ) → List (ℕ × ℕ)
put_in pair [] = pair ∷ []
put_in pair (first ∷ rest) =
    if is_less first pair then first ∷ put_in pair rest else pair ∷ first ∷ rest

-- these pairs, in ascending order
abbrev pub in_order : List (ℕ × ℕ) → List (ℕ × ℕ)
in_order [] = []
in_order (pair ∷ rest) = put_in pair (in_order rest)

-- this is the pair of that hash and that token
abbrev pub is_pair : ℕ → ℕ → ℕ × ℕ → Bool
is_pair hash token pair = (pair.0 == hash) && (pair.1 == token)

-- whether the table has the pair of that hash and that token
abbrev pub has_pair : Table → ℕ → ℕ → Bool
has_pair table hash token = list_any (is_pair hash token) table.pairs

-- the table has the pair of that hash and that token
abbrev pub HasPair : Table → ℕ → ℕ → Type 0
HasPair table hash token = IsTrue (has_pair table hash token)

-- how many pairs the table has
abbrev pub pair_count : Table → ℕ
pair_count table = length table.pairs

-- so much room, or room for all the pairs that the table can still take, one for each token
abbrev pub wanted_room : Table → ℕ → ℕ
wanted_room table additional = min additional (4294967294 - pair_count table)

-- every pair but that of this hash and this token is in both tables or in neither
abbrev pub SameOtherPairs : Table → Table → ℕ → ℕ → Type 0
SameOtherPairs old new hash token =
    (h k : ℕ) → ¬ ((h ≡ hash) × (k ≡ token)) → has_pair new h k ≡ has_pair old h k

-- the pair came to the table, and nothing else changed
pub record AddsPair (old new : Table) (hash token : ℕ) : Type 0 where
  pub added : HasPair new hash token
  pub others : SameOtherPairs old new hash token
  pub count : pair_count new ≡ pair_count old + 1

-- the pair left the table, and nothing else changed
pub record RemovesPair (old new : Table) (hash token : ℕ) : Type 0 where
  pub had : HasPair old hash token
  pub removed : has_pair new hash token ≡ false
  pub others : SameOtherPairs old new hash token
  pub count : pair_count new + 1 ≡ pair_count old

-- these are the tokens of that hash, each once, in any order
abbrev pub IsTokensOf : Table → ℕ → List ℕ → Type 0
IsTokensOf table hash tokens =
    (token : ℕ) → count_by (λ k. k == token) tokens ≡ (if has_pair table hash token then 1 else 0)

-- the table has a pair of that token
abbrev pub HasToken : Table → ℕ → Type 0
HasToken table token = (hash : ℕ) × HasPair table hash token

module _ {F : Type 0} (step : F → NonZeroU32 → Bool → F → Type 0) where
  -- f was shown these tokens in turn until it answered true, and the result is the token of that
  -- answer, or nothing where it answered false at each
  abbrev pub SearchesAlong : F → List ℕ → Option NonZeroU32 → Type 0
  SearchesAlong f [] result = result ≡ None
  SearchesAlong f (token ∷ rest) result =
      (shown : NonZeroU32) × (answer : Bool) × (next : F) × (non_zero_u32_get shown ≡ token)
      × step f shown answer next
      × MatchBool answer (result ≡ Some shown) (SearchesAlong next rest result)

  -- a call leaves f as it was
  abbrev pub CallsKeep : F → Type 0
  CallsKeep f =
      (shown : NonZeroU32) (answer : Bool) (next : F) → step f shown answer next → next ≡ f

  -- f answers so for the token
  abbrev pub AnswersSo : F → ℕ → Bool → Type 0
  AnswersSo f token answer =
      (shown : NonZeroU32) × (non_zero_u32_get shown ≡ token) × step f shown answer f

  -- the result is a token of that hash for which f answers true, or nothing, and then f answers
  -- false for each token of that hash
  abbrev pub FindsByAnswer : Table → ℕ → F → Option NonZeroU32 → Type 0
  FindsByAnswer table hash f result =
      MatchOption result
      ((token : ℕ) → HasPair table hash token → AnswersSo f token false)
      (λ token. AnswersSo f (non_zero_u32_get token) true)

  -- f was shown tokens of that hash, each at most once, until it answered true, or else all of them
  abbrev pub SearchesHash : Table → ℕ → F → Option NonZeroU32 → Type 0
  SearchesHash table hash f result =
      (tokens : List ℕ) × IsTokensOf table hash tokens × SearchesAlong f tokens result

  -- f computes a test of tokens: a call answers what the test says, and leaves f as it was
  pub record ComputesTest (f : F) (passes : ℕ → Bool) : Type 0 where
    pub answers : (shown : NonZeroU32) (answer : Bool) (next : F) → step f shown answer next
        → answer ≡ passes (non_zero_u32_get shown)
    pub keeps : (shown : NonZeroU32) (answer : Bool) (next : F) → step f shown answer next
        → next ≡ f

-- the result is a token of that hash that passes the test, or nothing, and then none of them passes
pub record FindsPassing (table : Table) (hash : ℕ) (passes : ℕ → Bool)
    (result : Option NonZeroU32) : Type 0 where
  pub found : (token : NonZeroU32) → result ≡ Some token
      → HasPair table hash (non_zero_u32_get token)
  pub passed : (token : NonZeroU32) → result ≡ Some token
      → passes (non_zero_u32_get token) ≡ true
  pub missed : result ≡ None → (token : ℕ) → HasPair table hash token → passes token ≡ false
