use Rattle.std.proofs.KnownBytes.{Keeps-refl}
use Rattle.nrm_desks_cli.proofs.Frames.{puts-nothing}
use Rattle.nrm_desks_cli.proofs.handling.answer_round.Goals as goal

pub returns-then-not-takes_frames-clause-puts : goal.returns-then-not-takes_frames-clause-puts
returns-then-not-takes_frames-clause-puts g c = puts-nothing _ _ _ (Keeps-refl (g.K.Sink.held c.args.sink.now))
