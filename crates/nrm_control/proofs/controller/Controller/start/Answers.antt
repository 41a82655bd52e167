use Rattle.std.proofs.Common.{subst}
use Rattle.nrm_model.specs.Limits.{IsNetwork}
use Rattle.nrm_control.proofs.AfterCalls.{control-of, kept-begun}
use Rattle.nrm_control.proofs.controller.Controller.start.Goals as goal

pub invariant_of-result : goal.invariant_of-result
invariant_of-result c =
    let begun = c.in_ok-plan in
    kept-begun c.args.net begun.plan begun.book begun.tallies.items (subst IsNetwork c.net.view_is c.net.invariant.network) begun.ensures.plan.planned begun.ensures.book begun.ensures.sound begun.ensures.tallies

pub returns-clause-sound : goal.returns-clause-sound
returns-clause-sound c = control-of c.args.net c.in_ok-plan.plan c.in_ok-plan.book c.in_ok-plan.tallies.items 0 (invariant_of-result c)
