use Rattle.std.proofs.Common.{◌≡◌, ◌<◌, ◌≤◌, ◌^◌, ◌∙◌, ap, arith, get_or}
use Rattle.nrm_lp.specs.declared.limits.TheConstants.{MOST_SEATS_IN_ALL}
use Rattle.nrm_dual.proofs.SumSteps.{bound_excess}
use Rattle.nrm_dual.proofs.sums.bound_cost.Goals as goal

pub returns-clause-limit : goal.returns-clause-limit
returns-clause-limit c =
    let a = c.args.program.now in
    let read : c.from-2.result ≡ get_or a.bounds c.args.product 0 = c.from-2.ensures ∙ ap (λ us. get_or us c.from.result 0) c.bounds.ensures.bounds ∙ ap (λ j. get_or a.bounds j 0) c.from.ensures in
    let seats : c.from-2.result ≤ MOST_SEATS_IN_ALL = omega (arith, read, c.bounds.ensures.limits.bound_size c.args.product c.requires.within) in
    let excess : c.saturating_sub-excess.result < 2 ^ 75 = omega arith in
    bound_excess c.from-2.result c.saturating_sub-excess.result seats excess
