use Rattle.nrm_model.specs.Demand.{total_to_come}
use Rattle.nrm_model.proofs.Lists.{map-number-more}
use Rattle.nrm_dlp.proofs.programs.bounds_of.Goals as goal

pub loop-j-preserved : goal.loop-j-preserved
loop-j-preserved c =
    map-number-more (λ j. total_to_come c.args.net.now j c.args.period) c.in_ok-push.ensures.items c.loop-j.invariant c.total.ensures.seats
