-- A line of which only that it is longer is kept is bad.
use Rattle.std.proofs.Common.{◌∙◌, sym}
use Rattle.nrm_stream.proofs.LongLines.{command_of-longer}
use Rattle.nrm_stream.proofs.splitter.Splitter.command.Goals as goal

pub returns-then-self-clause-command : goal.returns-then-self-clause-command
returns-then-self-clause-command c =
    let shown = rw c.if-self.true at c.self.view_is in
    λ line stands. sym (command_of-longer line (sym stands ∙ sym shown))
