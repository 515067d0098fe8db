use Rattle.std.proofs.Common.{refl}
use Rattle.qcrun_parts.specs.Runs.{ServesLine}
use Rattle.qcrun_parts.proofs.PrintLemmas.{Appends-nothing}
use Rattle.qcrun_parts.proofs.RunLemmas.{IsOkExactly-err, empty-length, some-length, ServesLine-lacks}
use Rattle.qcrun_parts.proofs.serving.SessionLineServer.serve_line.Goals as goal

-- an empty line asks for nothing
pub returns-then-is_empty : goal.returns-then-is_empty
returns-then-is_empty g c = record {
  printed = _;
  serves = ServesLine.is_empty (empty-length c.args.line.now c.if-is_empty.ensures);
  appended = Appends-nothing (g.W.Write.contents c.args.writer.now);
}

-- it is no command
pub returns-in_default : goal.returns-in_default
returns-in_default g c = record {
  printed = _;
  serves = ServesLine.is_no_command (some-length c.args.line.now c.if-is_empty.ensures)
      (IsOkExactly-err c.in_default.field-0 _ c.in_default.ensures);
  appended = Appends-nothing (g.W.Write.contents c.args.writer.now);
}

-- no cache stands
pub returns-in-NoCache : goal.returns-in-NoCache
returns-in-NoCache g c = record {
  printed = _;
  serves = ServesLine-lacks _ c.in-Ok.command (some-length c.args.line.now c.if-is_empty.ensures)
      ((c.in-Ok.ensures c.in-Ok.command).1 refl) c.serve.ensures c.in-NoCache.is;
  appended = Appends-nothing (g.W.Write.contents c.args.writer.now);
}

-- it was served
pub returns-in_ok-print-in_default-serve : goal.returns-in_ok-print-in_default-serve
returns-in_ok-print-in_default-serve g c = record {
  printed = _;
  serves = ServesLine.serves c.in-Ok.command _ _ ((c.in-Ok.ensures c.in-Ok.command).1 refl)
      c.serve.ensures c.in_default-serve.not-NoCache;
  appended = c.in_ok-print-in_default-serve.ensures;
}
