-- The list that is kept of a leg's products.
use Rattle.std.proofs.Common.{◌∙◌, length, ap, arith}
use Rattle.nrm_model.specs.Network.{NetworkValue}
use Rattle.nrm_model.specs.Stored.{numbers_using}
use Rattle.nrm_model.proofs.Used.{list-at, lists-count}
use Rattle.nrm_model.proofs.network.Network.products_on.Goals as goal

pub index-requires : goal.index-requires
index-requires c =
    let legs = ap (λ (net : NetworkValue). length net.legs) c.self.view_is in
    omega (arith, lists-count c.self.inside.products_on_legs.items (numbers_using c.self.inside.products.items) (length c.self.inside.legs.items) c.self.invariant.users)

pub returns : goal.returns
returns c =
    let legs = ap (λ (net : NetworkValue). length net.legs) c.self.view_is in
    let list = list-at c.self.inside.products_on_legs.items (numbers_using c.self.inside.products.items) (length c.self.inside.legs.items) c.args.leg c.index.result.now c.self.invariant.users (omega arith) c.index.ensures in
    c.deref.ensures.value ∙ list ∙ ap (λ (net : NetworkValue). numbers_using net.products c.args.leg) c.self.view_is
