-- The first line is the bytes before the first line feed, or all bytes.
use Rattle.nrm_stream.proofs.Cuts.{line-first}
use Rattle.nrm_stream.proofs.lines.next_line.Goals as goal

pub returns-in-Some : goal.returns-in-Some
returns-in-Some c = let cut = c.in-Some.ensures in (line-first c.args.bytes.now c.in-Some.next.0.now c.in-Some.next.1.now cut.0, cut.1)
