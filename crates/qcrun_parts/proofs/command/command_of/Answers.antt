use Rattle.std.proofs.Common.{List, ℕ, refl, subst}
use Rattle.qcrun_parts.specs.Commands.{IsLineOf, IsOkExactly}
use Rattle.qcrun_parts.proofs.CommandLemmas.{IsOkExactly-err}
use Rattle.qcrun_parts.proofs.LineLemmas.{IsUtf8-line}
use Rattle.qcrun_parts.proofs.command.command_of.Goals as goal

-- the text is the line
pub returns-in-Ok : goal.returns-in-Ok
returns-in-Ok c =
    subst (λ (text : List ℕ). IsOkExactly c.parse.result (IsLineOf text)) c.in-Ok.ensures.cases.0
    c.parse.ensures.value

-- what is no text is no command's line
pub returns-in-Err : goal.returns-in-Err
returns-in-Err c =
    IsOkExactly-err (IsLineOf c.args.line.now) _ refl
    (λ command is. c.in-Err.ensures.cases.0 (IsUtf8-line c.args.line.now command is))
