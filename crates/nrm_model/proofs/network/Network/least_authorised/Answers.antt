-- The least authorised seats of the legs so far, and with all of them those of the product.
use Rattle.std.proofs.Common.{◌≡◌, ◌∙◌, ◌<◌, length, get_or, ap, subst, arith}
use Rattle.nrm_model.specs.declared.product.Product.{Product}
use Rattle.nrm_model.specs.Limits.{IsNetwork}
use Rattle.nrm_model.specs.Network.{NetworkValue, product_of}
use Rattle.nrm_model.proofs.SeatLemmas.{least-end, least-step, leg-read, product-read, product-within}
use Rattle.nrm_model.proofs.network.Network.least_authorised.Goals as goal

pub loop-leg-preserved : goal.loop-leg-preserved
loop-leg-preserved c =
    let net = c.args.self.now in
    let is = subst IsNetwork c.self.view_is c.self.invariant.network in
    let read = subst (λ (net : NetworkValue). c.index.result.now ≡ get_or net.products c.args.product c.index.result.now) c.self.view_is c.index.ensures in
    let product = product-read net c.args.product c.index.result.now c.requires read in
    let legs = c.as_slice-leg-items.ensures ∙ ap (λ (product : Product). product.legs) product in
    let short : c.loop-leg.leg-index < length (product_of net c.args.product).legs = omega (arith, ap length legs) in
    let number = (product-within net is c.args.product c.requires).legs c.loop-leg.leg-index 0 short in
    let leg = subst (λ (net : NetworkValue). c.index-in-loop-leg.result.now ≡ get_or net.legs (get_or c.as_slice-leg-items.result.now c.loop-leg.leg-index 0) c.index-in-loop-leg.result.now) c.self.view_is c.index-in-loop-leg.ensures in
    let leg_is = leg-read net (get_or (product_of net c.args.product).legs c.loop-leg.leg-index 0) c.index-in-loop-leg.result.now number (rw legs at leg) in
    c.min-least.ensures ∙ least-step net (product_of net c.args.product).legs c.loop-leg.leg-index c.loop-leg.least c.index-in-loop-leg.result.now short leg_is c.loop-leg.invariant

pub returns : goal.returns
returns c =
    let net = c.args.self.now in
    let is = subst IsNetwork c.self.view_is c.self.invariant.network in
    let read = subst (λ (net : NetworkValue). c.index.result.now ≡ get_or net.products c.args.product c.index.result.now) c.self.view_is c.index.ensures in
    let product = product-read net c.args.product c.index.result.now c.requires read in
    let legs = c.as_slice-leg-items.ensures ∙ ap (λ (product : Product). product.legs) product in
    let (seats, within) = least-end net is c.args.product c.requires c.loop-leg.leg-index c.loop-leg.least (omega (arith, ap length legs)) c.loop-leg.invariant in
    record { seats = seats; within = omega arith }
