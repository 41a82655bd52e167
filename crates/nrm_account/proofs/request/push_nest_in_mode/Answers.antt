use Rattle.std.proofs.Common.{◌≡◌, ◌∙◌, Some, length, sym}
use Rattle.nrm_fraction.specs.Large.{size_limit}
use Rattle.nrm_model.specs.declared.mode.Mode.TheVariants as mode
use Rattle.nrm_virtual.proofs.Prices.{prices-of_shape}
use Rattle.nrm_plan.proofs.Plans.{plan-shape}
use Rattle.nrm_account.proofs.request.push_nest_in_mode.Goals as goal

pub push_nest-requires-clause-prices : goal.push_nest-requires-clause-prices
push_nest-requires-clause-prices c =
    let has : c.args.plan.now.certificate ≡ Some c.in-Davn-Some.certificate.now = search in
    prices-of_shape size_limit (length c.args.net.now.products) (length c.args.net.now.legs) c.in-Davn-Some.certificate.now
    (plan-shape c.args.net.now c.args.plan.now c.in-Davn-Some.certificate.now c.limits_hold.ensures.limits c.requires.plan has)

pub returns-in-Davn-Some : goal.returns-in-Davn-Some
returns-in-Davn-Some c =
    let has : c.args.plan.now.certificate ≡ Some c.in-Davn-Some.certificate.now = search in
    let is : c.args.plan.now.mode ≡ mode.Davn = sym c.mode.ensures ∙ c.in-Davn-Some.is-0 in
    rw (is, has, sym c.period.ensures) c.push_nest.ensures
