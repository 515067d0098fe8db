use Rattle.qcrun_parts.proofs.serving.serve.Goals as goal

-- the status is that of the end that was met
pub returns-in-Ok-EndOfInput : goal.returns-in-Ok-EndOfInput
returns-in-Ok-EndOfInput g c =
    λ ended. rw c.new.ensures at (rw c.in-Ok-EndOfInput.field-0-is at c.in-Ok-EndOfInput.ensures)

pub returns-in-Ok-BadLine : goal.returns-in-Ok-BadLine
returns-in-Ok-BadLine g c =
    λ ended. rw c.new.ensures at (rw c.in-Ok-BadLine.field-0-is at c.in-Ok-BadLine.ensures)
