-- The parts of the bytes begin with those before the first such byte.
use Rattle.std.proofs.Common.{◌==◌, ◌∙◌, sym}
use Rattle.nrm_stream.proofs.Cuts.{split-found, split-missing}
use Rattle.nrm_stream.proofs.cut.split_once.Goals as goal

pub returns-in-Some : goal.returns-in-Some
returns-in-Some c = split-found (λ b. b == c.args.wanted) c.args.bytes.now c.in-Some.end (sym c.first_at.ensures ∙ c.in-Some.is)

pub returns-in-None : goal.returns-in-None
returns-in-None c = split-missing (λ b. b == c.args.wanted) c.args.bytes.now (sym c.first_at.ensures ∙ c.in-None.is)
