use Rattle.std.proofs.Common.{◌∙◌, ap, sym}
use Rattle.nrm_model.specs.Network.{NetworkValue, product_named}
use Rattle.nrm_kept_cli.proofs.Ahead.{sold-kept}
use Rattle.nrm_kept_cli.proofs.keeping.keep_sale.Goals as goal

pub returns-in-Sold-clause-kept : goal.returns-in-Sold-clause-kept
returns-in-Sold-clause-kept g c =
    let found = ap (λ (net : NetworkValue). product_named net c.args.product.now) (sym c.network.ensures.network) ∙ sym c.in-Some.ensures.number in
    sold-kept g.P.Keeper c.args.controller.now c.args.keeper.now c.add.new.self c.add.result c.args.product.now c.args.party c.in-Some.found c.in-Sold.number
    found c.in-Sold.ensures.answer c.verdict.ensures.sound c.add.ensures.added c.add.ensures.shows
