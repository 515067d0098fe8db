-- Whole runs: the text that is read, what is printed for it, and the status at the end.
use Rattle.std.specs.Prelude.{◌≡◌, ◌+◌, ◌<◌, length, ⊤, ℕ, Bool, true, false, List, [], ◌++◌, Option, Some, None, codes}
use Rattle.std.specs.Fmt.{decimal}
use Rattle.std.specs.Io.KnownBytes.{Appends}
use Rattle.quick_cache_model.specs.Hooks.{Rules}
use Rattle.quick_cache_shard.specs.Shard.{Shard}
use Rattle.qcrun_parts.specs.declared.command.Command.{Command}
use Rattle.qcrun_parts.specs.declared.serving.session.Outcome.{Outcome}
use Rattle.qcrun_parts.specs.declared.serving.Ending.{Ending}
use Rattle.qcrun_parts.specs.Commands.{IsLineOf}
use Rattle.qcrun_parts.specs.Lines.{IsFirstLine}
use Rattle.qcrun_parts.specs.Printed.{outcome_text, line_of}
use Rattle.qcrun_parts.specs.Sessions.{ServesCommand}

-- what is printed of a bad line
abbrev pub bad_line : ℕ → List ℕ
bad_line number = line_of (codes "bad line " ++ decimal number)

-- the status at the end of the input, and behind a bad line
abbrev pub status_of : Ending → ℕ
status_of Ending.EndOfInput = 0
status_of Ending.BadLine = 2

-- The cache that stood, a line, whether it could be served, the cache that stands, and what is
-- printed. An empty line asks for nothing. Another line is bad that is no command, or that asks for
-- a cache where none stands.
pub data ServesLine {We B L : Type 0} (A : Type 0) (rules : Shard ℕ ℕ We B L → Rules ℕ ℕ)
    (old : Option (Shard ℕ ℕ We B L)) (line : List ℕ)
    : Bool → Option (Shard ℕ ℕ We B L) → List ℕ → Type 0 where
  is_empty : line ≡ [] → ServesLine A rules old line true old []
  serves : (command : Command) (outcome : Outcome A) (new : Option (Shard ℕ ℕ We B L))
      → IsLineOf line command → ServesCommand rules old command outcome new
      → (outcome ≡ Outcome.NoCache → ⊥)
      → ServesLine A rules old line true new (outcome_text outcome new)
  lacks_cache : (command : Command) (new : Option (Shard ℕ ℕ We B L)) → (line ≡ [] → ⊥)
      → IsLineOf line command → ServesCommand {A = A} rules old command Outcome.NoCache new
      → ServesLine A rules old line false new []
  is_no_command : (line ≡ [] → ⊥) → ((command : Command) → IsLineOf line command → ⊥)
      → ServesLine A rules old line false old []

-- A line was served so, and a writer has what was printed for it.
pub record PrintsLine {S : Type 0} (serves_line : Bool → S → List ℕ → Type 0) (served : Bool)
    (new : S) (before after : Option (List ℕ)) : Type 0 where
  pub printed : List ℕ
  pub serves : serves_line served new printed
  pub appended : Appends before after printed

-- Lines are served so, each from what the one before it left.
module _ {S : Type 0} (serves_line : S → List ℕ → Bool → S → List ℕ → Type 0) where
  -- The number of the next line, what stands, the text that is left, the status at the end and what
  -- is printed: line by line, up to the end of the text or to the first bad line, which is told by
  -- its number. A line of more than 200 bytes is bad.
  pub data ServesText : ℕ → S → List ℕ → (status : ℕ) → List ℕ → Type 0 where
    ends : (number : ℕ) (old : S) → ServesText number old [] 0 []
    goes_on : (number : ℕ) (old mid : S) (text line rest printed : List ℕ) (status : ℕ)
        (more : List ℕ) → IsFirstLine text line rest → serves_line old line true mid printed
        → ServesText (number + 1) mid rest status more
        → ServesText number old text status (printed ++ more)
    stops : (number : ℕ) (old new : S) (text line rest printed : List ℕ)
        → IsFirstLine text line rest → serves_line old line false new printed
        → ServesText number old text 2 (printed ++ bad_line number)
    too_long : (number : ℕ) (old : S) (text line rest : List ℕ) → IsFirstLine text line rest
        → 200 < length line → ServesText number old text 2 (bad_line number)

  -- The same of what is known of a reader and a writer, from the first line on. It says nothing
  -- where the text is not known.
  abbrev pub ServesKnown : S → Option (List ℕ) → (status : ℕ) → (before after : Option (List ℕ))
      → Type 0
  ServesKnown first None status before after = ⊤
  ServesKnown first (Some text) status before after =
      (printed : List ℕ) × ServesText 1 first text status printed × Appends before after printed
