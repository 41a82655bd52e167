-- What follows `cancel` is one word, or the line is bad.
use Rattle.std.proofs.Common.{◌∙◌, sym}
use Rattle.nrm_stream.proofs.FirstWords.{cancellation-words}
use Rattle.nrm_stream.proofs.parse.cancellation_in.Goals as goal

pub returns-clause-command : goal.returns-clause-command
returns-clause-command c = c.cancellation.ensures.command ∙ sym (cancellation-words c.args.rest.now)
