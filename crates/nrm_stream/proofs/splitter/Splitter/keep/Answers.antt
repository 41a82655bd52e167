-- What is kept is that of some line, whether or not the bytes fit.
use Rattle.std.proofs.Common.{arith}
use Rattle.nrm_stream.proofs.KeptOfSomeLine.{kept-stands}
use Rattle.nrm_stream.proofs.splitter.Splitter.keep.Goals as goal

pub returns-then-bytes-self-clause-stands : goal.returns-then-bytes-self-clause-stands
returns-then-bytes-self-clause-stands c =
    kept-stands c.self.inside.is_longer c.self.inside.len c.self.inside.bytes c.args.self.now c.self.view_is (omega arith)

pub returns-else-bytes-self-clause-stands : goal.returns-else-bytes-self-clause-stands
returns-else-bytes-self-clause-stands c =
    kept-stands c.self.inside.is_longer c.self.inside.len c.self.inside.bytes c.args.self.now c.self.view_is (omega arith)
