-- The loop over a clerk, with a controller alone.
use Rattle.nrm_session.proofs.Answered.{refines-are}
use Rattle.nrm_session.proofs.Hindsights.{control-bounds}
use Rattle.nrm_session.proofs.serving.serve.Goals as goal

pub serve_by-requires-clause-meanings : goal.serve_by-requires-clause-meanings
serve_by-requires-clause-meanings g c = refines-are

pub returns-clause-hindsight : goal.returns-clause-hindsight
returns-clause-hindsight g c = control-bounds c.args.controller.now c.limits_hold.ensures.sound
