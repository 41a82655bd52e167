use Rattle.std.proofs.Common.{◌∙◌, ap, take, ◌-◌}
use Rattle.nrm_desks_cli.proofs.Buffers.{front-moved}
use Rattle.nrm_desks_cli.proofs.incoming.move_front.Goals as goal

pub returns-clause-front : goal.returns-clause-front
returns-clause-front c =
    ap (take (c.args.end - c.args.start)) c.copy_within.ensures.items
    ∙ front-moved c.args.bytes.now.items c.args.start c.args.end c.requires.ordered c.requires.within
