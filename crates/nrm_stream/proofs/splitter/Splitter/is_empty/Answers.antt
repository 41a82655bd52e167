-- What is kept is that of some line, also where the line is empty.
use Rattle.std.proofs.Common.{arith}
use Rattle.nrm_stream.proofs.KeptOfSomeLine.{kept-stands}
use Rattle.nrm_stream.proofs.splitter.Splitter.is_empty.Goals as goal

pub returns-then-not-self-clause-stands : goal.returns-then-not-self-clause-stands
returns-then-not-self-clause-stands c = kept-stands c.self.inside.is_longer c.self.inside.len c.self.inside.bytes c.args.self.now
    c.self.view_is (omega arith)

pub returns-else-not-self-clause-stands : goal.returns-else-not-self-clause-stands
returns-else-not-self-clause-stands c = kept-stands c.self.inside.is_longer c.self.inside.len c.self.inside.bytes c.args.self.now
    c.self.view_is (omega arith)
