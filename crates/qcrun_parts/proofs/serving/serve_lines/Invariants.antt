use Rattle.std.specs.Io.Buffered.{reader_remaining}
use Rattle.qcrun_parts.proofs.RunLemmas.{Serving}
use Rattle.qcrun_parts.proofs.serving.serve_lines.Given as goal

-- the lines before this one were served
abbrev pub invariant-loop-number : goal.invariant-loop-number
invariant-loop-number g l =
    Serving g.S.LineServer.serves_line l.fn.server (g.R.Read.remaining l.fn.reader)
    (g.W.Write.contents l.fn.writer) l.number l.server
    (reader_remaining g.R.Read.remaining l.reader) (g.W.Write.contents l.writer)
