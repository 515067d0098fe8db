-- The lines of a text, and what reading one leaves.
use Rattle.std.specs.Prelude.{◌≡◌, ◌<◌, ⊤, ℕ, List, [], ◌∷◌, ◌++◌, length, Option, Some, None, All}
use Rattle.qcrun_parts.specs.declared.lines.Line.{Line}

-- not a line feed
abbrev pub IsInLine : ℕ → Type 0
IsInLine byte = byte ≡ 10 → ⊥

-- The first line of a text, and what stands behind it: the line goes up to a line feed, which the
-- last line may lack.
pub data IsFirstLine (text line rest : List ℕ) : Type 0 where
  has_end : All IsInLine line → text ≡ line ++ 10 ∷ rest → IsFirstLine text line rest
  is_last : All IsInLine line → (line ≡ [] → ⊥) → text ≡ line → rest ≡ []
      → IsFirstLine text line rest

-- What is known of the bytes that are left, once a byte was asked for: it is the first of them, or
-- there was none.
abbrev pub GivesByte : Option (List ℕ) → Option (List ℕ) → Option ℕ → Type 0
GivesByte None left byte = ⊤
GivesByte (Some text) left None = (text ≡ []) × (left ≡ Some [])
GivesByte (Some text) left (Some byte) = (rest : List ℕ) × (text ≡ byte ∷ rest) × (left ≡ Some rest)

-- of a text these bytes of its first line were read
abbrev pub HasRead : Option (List ℕ) → List ℕ → Option (List ℕ) → Type 0
HasRead None line left = ⊤
HasRead (Some text) line left =
    (rest : List ℕ) × (text ≡ line ++ rest) × All IsInLine line × (left ≡ Some rest)

-- the first line is longer than 200 bytes, of which these are the first
pub record IsTooLong (text line : List ℕ) : Type 0 where
  pub rest : List ℕ
  pub begins : text ≡ line ++ rest
  pub is_line : All IsInLine line
  pub longer : 200 < length line

-- What is known of the bytes that are left, once a line was asked for.
abbrev pub ReadsLine : Option (List ℕ) → List ℕ → Option (List ℕ) → Line → Type 0
ReadsLine None line left answer = ⊤
ReadsLine (Some text) line left Line.Whole =
    (rest : List ℕ) × IsFirstLine text line rest × (left ≡ Some rest)
ReadsLine (Some text) line left Line.TooLong = IsTooLong text line
ReadsLine (Some text) line left Line.End = text ≡ []
