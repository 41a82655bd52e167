use Rattle.std.proofs.Common.{◌∙◌}
use Rattle.nrm_network.proofs.Marks.{marked, unmarked}
use Rattle.nrm_network.proofs.reading.without_mark.Goals as goal

pub returns-in-Some : goal.returns-in-Some
returns-in-Some c = let (is, rest, size) = rw c.as_slice.ensures at c.in-Some.ensures.cases in rest ∙ marked c.args.bytes.now is

pub returns-in-None : goal.returns-in-None
returns-in-None c = unmarked c.args.bytes.now (rw c.as_slice.ensures at c.in-None.ensures.cases)
