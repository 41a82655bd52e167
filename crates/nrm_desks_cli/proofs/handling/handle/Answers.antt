use Rattle.std.proofs.Common.{refl}
use Rattle.nrm_frames.specs.declared.header.Header.TheVariants as header
use Rattle.nrm_desks_cli.proofs.Frames.{bare-handled}
use Rattle.nrm_desks_cli.proofs.handling.handle.Goals as goal

pub returns-in-End-clause-handles : goal.returns-in-End-clause-handles
returns-in-End-clause-handles g c =
    let (empty, goes) = bare-handled c.args.hub.now c.ended.new.self c.args.header header.End c.args.payload.now (g.K.Sink.held c.args.sink.now)
    c.in-End.is refl c.requires.payload c.ended.ensures.goes in
    (c.in-End.is, empty, goes, refl)

pub returns-in-Gone-clause-handles : goal.returns-in-Gone-clause-handles
returns-in-Gone-clause-handles g c =
    let (empty, goes) = bare-handled c.args.hub.now c.gone.new.self c.args.header (header.Gone c.in-Gone.place) c.args.payload.now
    (g.K.Sink.held c.args.sink.now) c.in-Gone.is refl c.requires.payload c.gone.ensures.goes in
    (goes, refl)
