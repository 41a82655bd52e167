use Rattle.std.proofs.Common.{◌∙◌, ◌<◌, length, subst, sym}
use Rattle.nrm_model.specs.Network.{NetworkValue}
use Rattle.nrm_kept_cli.proofs.Loads.{loadable-given}
use Rattle.nrm_kept_cli.proofs.loading.booking_of.Goals as goal

pub returns-clause-loadable : goal.returns-clause-loadable
returns-clause-loadable c =
    let short = subst (λ (net : NetworkValue). c.in_ok-product.product < length net.products) c.network.ensures.network c.in_ok-product.ensures.within in
    loadable-given c.args.controller.now c.args.row.now c.in_ok-product.product short (sym c.row_fits.ensures ∙ c.if-not-row_fits.false)
