-- Runs, line by line.
use Rattle.std.proofs.Common.{◌≡◌, ◌+◌, ◌≤◌, ◌⊎◌, inl, inr, ⊎_elim, ℕ, Bool, true, false, ◌==◌, List, [], ◌∷◌, ◌++◌, length, Option, Some}
use Rattle.std.proofs.Common.{None, Result, Ok, Err, All, refl, sym, ap, subst, ◌∙◌, append_assoc, arith}
use Rattle.std.proofs.lemmas.Bool.{cases_eq, eqb-true}
use Rattle.std.proofs.lemmas.List.{append-nil, length-append}
use Rattle.std.proofs.lemmas.List.Elements.{All-nil, All-cons, All-append}
use Rattle.std.specs.Io.KnownBytes.{Appends}
use Rattle.std.specs.Prelude.{⊤, IfOk, OnOk}
use Rattle.quick_cache_model.specs.Hooks.{Rules}
use Rattle.quick_cache_shard.specs.Shard.{Shard}
use Rattle.qcrun_parts.specs.declared.command.Command.{Command}
use Rattle.qcrun_parts.specs.declared.lines.Line.{Line}
use Rattle.qcrun_parts.specs.Commands.{IsLineOf, IsOkExactly}
use Rattle.qcrun_parts.specs.Lines.{IsInLine, IsFirstLine, IsTooLong, ReadsLine}
use Rattle.qcrun_parts.specs.declared.serving.session.Outcome.{Outcome}
use Rattle.qcrun_parts.specs.declared.serving.Ending.{Ending}
use Rattle.qcrun_parts.specs.Sessions.{ServesCommand}
use Rattle.qcrun_parts.specs.Runs.{ServesLine, ServesText, ServesKnown, PrintsLine, bad_line, status_of}
use Rattle.qcrun_parts.proofs.PrintLemmas.{Appends-both}

err_is_not_ok : {X E : Type 0} (error : E) (value : X) → Err error ≡ Ok value → ⊥
err_is_not_ok error value is = cc

-- an error is Ok of no value, so nothing holds
pub IsOkExactly-err : {X E : Type 0} (error : E) (P : X → Type 0)
    → IsOkExactly (Err error) P → (value : X) → P value → ⊥
IsOkExactly-err error P exact value holds = err_is_not_ok error value ((exact value).0 holds)

-- a list of no items
pub empty-length : {X : Type 0} (xs : List X) → true ≡ (length xs == 0) → xs ≡ []
empty-length [] is = refl
empty-length (x ∷ xs) is = absurd (omega (arith, eqb-true (length (x ∷ xs)) 0 (sym is)))

-- a list of some is not empty
pub some-length : {X : Type 0} (xs : List X) → false ≡ (length xs == 0) → xs ≡ [] → ⊥
some-length [] is none = cc
some-length (x ∷ xs) is none = cc

-- where the line ends in which a text begins
record EndsLine (text : List ℕ) : Type 0 where
  pub front : List ℕ
  pub left : List ℕ
  pub is_line : All IsInLine front
  pub ends : (text ≡ front ++ 10 ∷ left) ⊎ ((text ≡ front) × (left ≡ []))

line_end : (text : List ℕ) → EndsLine text
line_end [] = record { front = []; left = []; is_line = All-nil IsInLine; ends = inr (refl, refl) }
line_end (byte ∷ text) =
    let tail = line_end text in
    ⊎_elim
    (λ (e : byte ≡ 10). record {
      front = [];
      left = text;
      is_line = All-nil IsInLine;
      ends = inl (ap (λ (b : ℕ). b ∷ text) e);
    })
    (λ (other : byte ≡ 10 → ⊥). record {
      front = byte ∷ tail.front;
      left = tail.left;
      is_line = All-cons IsInLine byte tail.front other tail.is_line;
      ends = ⊎_elim (λ e. inl (ap (λ (bs : List ℕ). byte ∷ bs) e))
          (λ e. inr (ap (λ (bs : List ℕ). byte ∷ bs) e.0, e.1)) tail.ends;
    })
    (cases_eq byte 10)

-- the first line of a text, of which the first bytes are known
pub record FirstLine (text line : List ℕ) : Type 0 where
  pub whole : List ℕ
  pub rest : List ℕ
  pub is_first : IsFirstLine text whole rest
  pub longer : length line ≤ length whole

pub first_line : (text line : List ℕ) → IsTooLong text line → FirstLine text line
first_line text line long =
    let end = line_end long.rest in
    record {
      whole = line ++ end.front;
      rest = end.left;
      is_first = ⊎_elim
          (λ e. IsFirstLine.has_end (All-append IsInLine line end.front long.is_line end.is_line)
          (long.begins ∙ ap (λ (bs : List ℕ). line ++ bs) e
          ∙ sym (append_assoc line end.front (10 ∷ end.left))))
          (λ e. IsFirstLine.is_last (All-append IsInLine line end.front long.is_line end.is_line)
          (λ none. absurd (omega (
            arith,
            ap length none,
            length-append line end.front,
            long.longer,
          )))
          (long.begins ∙ ap (λ (bs : List ℕ). line ++ bs) e.0) e.1)
          end.ends;
      longer = omega (arith, length-append line end.front);
    }

module _ {We B L A : Type 0} (rules : Shard ℕ ℕ We B L → Rules ℕ ℕ) where
  -- a line's command asked for a cache, and none stands
  pub ServesLine-lacks : {old new : Option (Shard ℕ ℕ We B L)} {line : List ℕ} {outcome : Outcome A}
      (command : Command) → (line ≡ [] → ⊥) → IsLineOf line command
      → ServesCommand rules old command outcome new
      → outcome ≡ Outcome.NoCache → ServesLine A rules old line false new []
  ServesLine-lacks {old} {new} command some is serves lacks =
      ServesLine.lacks_cache command new some is
      (subst (λ outcome. ServesCommand rules old command outcome new) lacks serves)

module _ {S : Type 0} (serves_line : S → List ℕ → Bool → S → List ℕ → Type 0) where
  -- The lines before this one were served: whatever the rest of the text will give comes behind
  -- what was printed for them.
  pub record IsServing (first : S) (text : List ℕ) (before : Option (List ℕ)) (number : ℕ) (now : S)
      (left after : Option (List ℕ)) : Type 0 where
    pub rest : List ℕ
    pub printed : List ℕ
    pub known : left ≡ Some rest
    pub appended : Appends before after printed
    pub goes : (status : ℕ) (more : List ℕ) → ServesText serves_line number now rest status more
        → ServesText serves_line 1 first text status (printed ++ more)

  -- the same where the text may not be known
  abbrev pub Serving : (first : S) (text before : Option (List ℕ)) (number : ℕ) (now : S)
      (left after : Option (List ℕ)) → Type 0
  Serving first None before number now left after = ⊤
  Serving first (Some text) before number now left after =
      IsServing first text before number now left after

  -- one line more
  pub Serving-more : (first : S) (text before : Option (List ℕ)) (number : ℕ) (old mid : S)
      (left after : Option (List ℕ)) (line : List ℕ) (last now : Option (List ℕ))
      → Serving first text before number old left after → ReadsLine left line last Line.Whole
      → PrintsLine (serves_line old line) true mid after now
      → Serving first text before (number + 1) mid last now
  Serving-more first None before number old mid left after line last now serving reads prints = tt
  Serving-more first (Some text) before number old mid left after line last now serving reads
      prints =
      let read = subst (λ known. ReadsLine known line last Line.Whole) serving.known reads in
      record {
        rest = read.0;
        printed = serving.printed ++ prints.printed;
        known = read.2;
        appended = Appends-both before after now serving.printed prints.printed serving.appended
            prints.appended;
        goes = λ status more serves. subst (ServesText serves_line 1 first text status)
            (sym (append_assoc serving.printed prints.printed more))
            (serving.goes status (prints.printed ++ more)
            (ServesText.goes_on number old mid serving.rest line read.0 prints.printed status more
            read.1 prints.serves serves));
      }

  -- no line is left
  pub ServesKnown-end : (first : S) (text before : Option (List ℕ)) (number : ℕ) (now : S)
      (left after : Option (List ℕ)) (line : List ℕ) (last : Option (List ℕ))
      → Serving first text before number now left after → ReadsLine left line last Line.End
      → ServesKnown serves_line first text 0 before after
  ServesKnown-end first None before number now left after line last serving reads = tt
  ServesKnown-end first (Some text) before number now left after line last serving reads =
      let none = subst (λ known. ReadsLine known line last Line.End) serving.known reads in (
        serving.printed,
        subst (ServesText serves_line 1 first text 0) (append-nil serving.printed)
            (serving.goes 0 [] (rw none (ServesText.ends number now))),
        serving.appended,
      )

  -- a line was bad
  pub ServesKnown-bad : (first : S) (text before : Option (List ℕ)) (number : ℕ) (old new : S)
      (left after : Option (List ℕ)) (line : List ℕ) (last mid now : Option (List ℕ))
      → Serving first text before number old left after → ReadsLine left line last Line.Whole
      → PrintsLine (serves_line old line) false new after mid → Appends mid now (bad_line number)
      → ServesKnown serves_line first text 2 before now
  ServesKnown-bad first None before number old new left after line last mid now serving reads prints
      tells = tt
  ServesKnown-bad first (Some text) before number old new left after line last mid now serving reads
      prints tells =
      let read = subst (λ known. ReadsLine known line last Line.Whole) serving.known reads in
      let told = prints.printed ++ bad_line number in (
        serving.printed ++ told,
        serving.goes 2 told
            (ServesText.stops number old new serving.rest line read.0 prints.printed read.1
            prints.serves),
        Appends-both before after now serving.printed told serving.appended
            (Appends-both after mid now prints.printed (bad_line number) prints.appended tells),
      )

  -- a line was too long
  pub ServesKnown-too_long : (first : S) (text before : Option (List ℕ)) (number : ℕ) (old : S)
      (left after : Option (List ℕ)) (line : List ℕ) (last now : Option (List ℕ))
      → Serving first text before number old left after → ReadsLine left line last Line.TooLong
      → Appends after now (bad_line number) → ServesKnown serves_line first text 2 before now
  ServesKnown-too_long first None before number old left after line last now serving reads
      tells = tt
  ServesKnown-too_long first (Some text) before number old left after line last now serving
      reads tells =
      let long = subst (λ known. ReadsLine known line last Line.TooLong) serving.known reads in
      let begun = first_line serving.rest line long in (
        serving.printed ++ bad_line number,
        serving.goes 2 (bad_line number)
            (ServesText.too_long number old serving.rest begun.whole begun.rest begun.is_first
            (omega (arith, long.longer, begun.longer))),
        Appends-both before after now serving.printed (bad_line number) serving.appended tells,
      )

  -- the same where a call told it
  pub ServesKnown-told-bad : {E : Type 0} (first : S) (text before : Option (List ℕ)) (number : ℕ)
      (old new : S) (left after : Option (List ℕ)) (line : List ℕ) (last mid now : Option (List ℕ))
      (told : Result Ending E) → IfOk told (λ ending. ending ≡ Ending.BadLine)
      → Serving first text before number old left after → ReadsLine left line last Line.Whole
      → PrintsLine (serves_line old line) false new after mid
      → OnOk told (Appends mid now (bad_line number))
      → IfOk told (λ ending. ServesKnown serves_line first text (status_of ending) before now)
  ServesKnown-told-bad first text before number old new left after line last mid now (Ok ending) is
      serving reads prints tells =
      subst (λ ending. ServesKnown serves_line first text (status_of ending) before now) (sym is)
      (ServesKnown-bad first text before number old new left after line last mid now serving reads
      prints tells)
  ServesKnown-told-bad first text before number old new left after line last mid now (Err error) is
      serving reads prints tells = tt

  pub ServesKnown-told-long : {E : Type 0} (first : S) (text before : Option (List ℕ)) (number : ℕ)
      (old : S) (left after : Option (List ℕ)) (line : List ℕ) (last now : Option (List ℕ))
      (told : Result Ending E) → IfOk told (λ ending. ending ≡ Ending.BadLine)
      → Serving first text before number old left after → ReadsLine left line last Line.TooLong
      → OnOk told (Appends after now (bad_line number))
      → IfOk told (λ ending. ServesKnown serves_line first text (status_of ending) before now)
  ServesKnown-told-long first text before number old left after line last now (Ok ending) is serving
      reads tells =
      subst (λ ending. ServesKnown serves_line first text (status_of ending) before now) (sym is)
      (ServesKnown-too_long first text before number old left after line last now serving reads
      tells)
  ServesKnown-told-long first text before number old left after line last now (Err error) is serving
      reads tells = tt
