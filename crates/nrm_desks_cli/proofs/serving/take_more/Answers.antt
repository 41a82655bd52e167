use Rattle.nrm_desks_cli.proofs.Rooms.{part-short}
use Rattle.nrm_desks_cli.proofs.serving.take_more.Goals as goal

pub take-requires : goal.take-requires
take-requires g c = part-short c.args.incoming.now c.requires
