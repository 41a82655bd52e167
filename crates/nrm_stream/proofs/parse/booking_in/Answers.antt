-- What follows `book` is a name and a party, or the line is bad.
use Rattle.std.proofs.Common.{◌∙◌}
use Rattle.nrm_stream.proofs.FirstWords.{booked, not-booked}
use Rattle.nrm_stream.proofs.parse.booking_in.Goals as goal

pub returns-in-Some-clause-command : goal.returns-in-Some-clause-command
returns-in-Some-clause-command c = c.booking.ensures.command ∙ booked c.args.rest.now _ _ c.in-Some.ensures

pub returns-in-None-clause-command : goal.returns-in-None-clause-command
returns-in-None-clause-command c = not-booked c.args.rest.now c.in-None.ensures
