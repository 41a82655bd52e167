-- What follows `reoptimise` is a number, or the line is bad.
use Rattle.std.proofs.Common.{rules}
use Rattle.nrm_stream.proofs.FirstWords.{reoptimisation-words}
use Rattle.nrm_stream.proofs.parse.reoptimisation_in.Goals as goal

pub returns-in-Ok-clause-command : goal.returns-in-Ok-clause-command
returns-in-Ok-clause-command c = search (rules, reoptimisation-words)

pub returns-in_default-clause-command : goal.returns-in_default-clause-command
returns-in_default-clause-command c = search (rules, reoptimisation-words)
