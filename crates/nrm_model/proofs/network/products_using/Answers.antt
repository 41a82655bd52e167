use Rattle.std.proofs.Common.{◌≡◌, ◌∙◌, sym, ap}
use Rattle.nrm_model.specs.Inventory.{uses_leg}
use Rattle.nrm_model.specs.Stored.{legs_alone}
use Rattle.nrm_model.proofs.Used.{left-out, taken-in, uses-read}
use Rattle.nrm_model.proofs.network.products_using.Goals as goal
use Rattle.nrm_model.proofs.network.products_using.Goals.{then-contains+in_ok-push, else-contains}

pub loop-number-preserved : goal.loop-number-preserved
loop-number-preserved c =
    let products = c.args.products.now in
    let n = c.loop-number.number in
    let test = uses_leg (legs_alone products) c.args.leg in
    let read = uses-read products n c.args.leg c.index-products-number.result c.loop-number-test.true c.index-products-number.is in
    let is : test n ≡ c.contains.result = rw (← read) (rw c.as_slice.ensures at (sym c.contains.ensures.value)) in
    elim c.if-contains.branch [
      | then-contains+in_ok-push w ↦ ap (λ v. v.items) w.numbers-is ∙ taken-in test n c.loop-number.numbers.items w.push.new.self.items c.loop-number.invariant (is ∙ w.if-contains.true) w.in_ok-push.ensures.items
      | else-contains w ↦ ap (λ v. v.items) w.numbers-is ∙ left-out test n c.loop-number.numbers.items c.loop-number.invariant (is ∙ w.if-contains.false)
    ]
