use Rattle.nrm_frames.specs.Outgoing.{close}
use Rattle.nrm_frames.specs.declared.why.Why.TheVariants as why
use Rattle.nrm_desks_cli.proofs.Frames.{put-handled}
use Rattle.nrm_desks_cli.proofs.handling.open.Goals as goal

pub returns-in-NoMemory-clause-handles : goal.returns-in-NoMemory-clause-handles
returns-in-NoMemory-clause-handles g c =
    put-handled c.args.hub.now c.open.new.self _ _ _ _ _ _ (close c.args.place why.Memory) c.put_close.result c.outcome_of.result c.outcome_of.ensures
    c.in-NoMemory.ensures.opened c.put_close.ensures.whole c.put_close.ensures.cut c.put_close.ensures.cause
