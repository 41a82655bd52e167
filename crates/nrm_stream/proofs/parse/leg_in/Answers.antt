-- What follows `leg` is a name, or the line is bad.
use Rattle.std.proofs.Common.{rules}
use Rattle.nrm_stream.proofs.FirstWords.{leg-words}
use Rattle.nrm_stream.proofs.parse.leg_in.Goals as goal

pub returns-in-Some-clause-command : goal.returns-in-Some-clause-command
returns-in-Some-clause-command c = search (rules, leg-words)

pub returns-in-None-clause-command : goal.returns-in-None-clause-command
returns-in-None-clause-command c = search (rules, leg-words)
