use Rattle.std.proofs.Common.{ℕ, List, [], ◌∷◌, None, Some, sym, ap, subst, ◌∙◌, arith}
use Rattle.std.proofs.lemmas.Str.Pattern.{split_parts}
use Rattle.qcrun_parts.specs.Commands.{AreNumbers, HasMore, HasNumbers, IsLineOf, numbers_of}
use Rattle.qcrun_parts.proofs.CommandLemmas.{IsOkExactly-as, IsOkExactly-err, IsLineOf-split, IsLineOf-joined, AreNumbers-one}
use Rattle.qcrun_parts.proofs.CommandLemmas.{AreNumbers-of_one, AreNumbers-two, AreNumbers-more}
use Rattle.qcrun_parts.proofs.command.CommandFromStr.from_str.Goals as goal

-- the one word behind the name is no number
pub returns-in_err-number : goal.returns-in_err-number
returns-in_err-number c =
    let parts = split_parts 32 c.args.line.now
    (Some (c.in-Some.name, c.in-Some.words)) c.in-Some.ensures.cases (omega arith) in
    let lacks = split_parts 32 c.in-Some.words.now None c.in_default-split_once.ensures.cases
    (omega arith) in
    IsOkExactly-err (IsLineOf c.args.line.now) c.from_residual.result c.from_residual.ensures.0
    (λ command is.
    let split = IsLineOf-split _ _ _ parts.0 parts.1 command is in
    let one = AreNumbers-one _ lacks (numbers_of command) split.1 in
    c.in_err-number.ensures one.1.0)

-- it is a number, and the line is that of the command of this name with this number
pub returns-in_default-split_once : goal.returns-in_default-split_once
returns-in_default-split_once c =
    let parts = split_parts 32 c.args.line.now
    (Some (c.in-Some.name, c.in-Some.words)) c.in-Some.ensures.cases (omega arith) in
    let lacks = split_parts 32 c.in-Some.words.now None c.in_default-split_once.ensures.cases
    (omega arith) in
    let number = c.in_ok-number.ensures in
    let n = c.in_ok-number.field-0 in
    IsOkExactly-as c.with_number.result (HasNumbers c.in-Some.name.now (n ∷ []))
    (IsLineOf c.args.line.now)
    (λ command has. IsLineOf-joined _ _ _ parts.0 parts.1 command has.0
    (subst (λ (ns : List ℕ). AreNumbers (32 ∷ c.in-Some.words.now) ns) has.1
    (AreNumbers-of_one c.in-Some.words.now n (number.0, sym number.1))) has.2)
    (λ command is.
    let split = IsLineOf-split _ _ _ parts.0 parts.1 command is in
    let one = AreNumbers-one _ lacks (numbers_of command) split.1 in
    (split.0, ap (λ (m : ℕ). m ∷ []) (number.1 ∙ one.1.1) ∙ sym one.2, is.3))
    c.with_number.ensures

-- the first of more words is no number
pub returns-in_err-number-2 : goal.returns-in_err-number-2
returns-in_err-number-2 c =
    let parts = split_parts 32 c.args.line.now
    (Some (c.in-Some.name, c.in-Some.words)) c.in-Some.ensures.cases (omega arith) in
    let words = split_parts 32 c.in-Some.words.now
    (Some (c.in-Some-split_once.first, c.in-Some-split_once.more))
    c.in-Some-split_once.ensures.cases (omega arith) in
    IsOkExactly-err (IsLineOf c.args.line.now) c.from_residual-in_err-number-2.result
    c.from_residual-in_err-number-2.ensures.0
    (λ command is.
    let split = IsLineOf-split _ _ _ parts.0 parts.1 command is in
    let two = AreNumbers-two _ _ _ words.0 words.1 (numbers_of command) split.1 in
    c.in_err-number-2.ensures two.2.0)

-- it is a number, and others stand behind it
pub returns : goal.returns
returns c =
    let parts = split_parts 32 c.args.line.now
    (Some (c.in-Some.name, c.in-Some.words)) c.in-Some.ensures.cases (omega arith) in
    let words = split_parts 32 c.in-Some.words.now
    (Some (c.in-Some-split_once.first, c.in-Some-split_once.more))
    c.in-Some-split_once.ensures.cases (omega arith) in
    let first = c.in_ok-number-2.ensures in
    let n = c.in_ok-number-2.field-0 in
    IsOkExactly-as c.with_more.result (HasMore c.in-Some.name.now n c.in-Some-split_once.more.now)
    (IsLineOf c.args.line.now)
    (λ command more. IsLineOf-joined _ _ _ parts.0 parts.1 command more.1.0
    (subst (λ (ns : List ℕ). AreNumbers (32 ∷ c.in-Some.words.now) ns) more.1.1
    (AreNumbers-more _ _ _ words.0 words.1 n more.0 (first.0, sym first.1) more.2)) more.1.2)
    (λ command is.
    let split = IsLineOf-split _ _ _ parts.0 parts.1 command is in
    let two = AreNumbers-two _ _ _ words.0 words.1 (numbers_of command) split.1 in (
      two.1,
      (
        split.0,
        ap (λ (m : ℕ). m ∷ two.1) (first.1 ∙ two.2.1) ∙ sym two.4,
        is.3,
      ),
      two.3,
    ))
    c.with_more.ensures
