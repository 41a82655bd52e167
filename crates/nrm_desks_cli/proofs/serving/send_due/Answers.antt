use Rattle.nrm_desks_cli.proofs.Frames.{puts-sent, puts-unsent}
use Rattle.nrm_desks_cli.proofs.serving.send_due.Goals as goal

pub returns-clause-puts : goal.returns-clause-puts
returns-clause-puts g c = puts-sent _ _ _ _ _ c.flush.result c.in_ok-answer_round.ensures.puts c.flush.ensures.bytes

pub returns-clause-cut : goal.returns-clause-cut
returns-clause-cut g c = puts-unsent _ _ _ _ _ c.flush.result c.in_ok-answer_round.ensures.puts c.flush.ensures.bytes
