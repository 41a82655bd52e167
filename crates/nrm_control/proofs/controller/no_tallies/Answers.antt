use Rattle.std.proofs.Common.{ℕ, ◌≡◌, ◌∙◌, length, replicate, ap, arith}
use Rattle.nrm_control.proofs.Tallies.{none-asked}
use Rattle.nrm_control.proofs.controller.no_tallies.Goals as goal

pub returns : goal.returns
returns c =
    let all : c.loop.counter ≡ length c.args.net.now.products = omega (arith, c.loop-test.false, c.loop.auto.counter-end, c.product_count-end.ensures.count) in
    c.loop.invariant ∙ ap (λ (n : ℕ). replicate n 0) all ∙ none-asked c.args.net.now
