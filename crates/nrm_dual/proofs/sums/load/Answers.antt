-- Each product on the leg adds its seats.
use Rattle.std.proofs.Common.{◌≡◌, ◌+◌, ◌<◌, ◌∙◌, sym, subst, arith, length, drop, nat_abs}
use Rattle.std.proofs.lemmas.List.{length-map}
use Rattle.nrm_lp.specs.Program.{load}
use Rattle.nrm_lp.specs.Certified.{sizes}
use Rattle.nrm_lp.proofs.Optimal.{lengths_are}
use Rattle.nrm_dual.proofs.SumSteps.{load_named, load_unnamed, load_done}
use Rattle.nrm_dual.proofs.sums.load.Goals as goal
use Rattle.nrm_dual.proofs.sums.load.Goals.{then-uses_leg, else-uses_leg}

pub loop-product-preserved : goal.loop-product-preserved
loop-product-preserved c =
    let a = c.args.program.now in
    let xs = sizes c.args.certificate.now.x in
    let j = c.loop-product.product in
    let i = c.args.leg in
    let sum = c.loop-product.seats in
    let counts = lengths_are (length a.caps) a.bounds a.fares a.legs c.product_count-product-end.ensures.limits.products in
    let listed : j < length a.legs = omega (arith, counts.1) in
    let held : j < length xs = omega (arith, c.requires.shaped.allocation, length-map c.args.certificate.now.x (λ n. nat_abs n)) in
    elim c.if-uses_leg.branch [
      | then-uses_leg w ↦
          let added : sum + w.allotted-seats.result + load i (drop (j + 1) a.legs) (drop (j + 1) xs) ≡ load i a.legs xs =
          subst (λ n. sum + n + load i (drop (j + 1) a.legs) (drop (j + 1) xs) ≡ load i a.legs xs) (sym w.allotted-seats.ensures.value)
          (load_named i a.legs xs j sum _ listed held (sym c.uses_leg.ensures.uses ∙ w.if-uses_leg.true) c.loop-product.invariant.counted) in
          record { counted = omega (arith, added, w.seats-is); limit = omega (arith, w.seats-is, w.allotted-seats.ensures.limit, c.loop-product.invariant.limit) }
      | else-uses_leg w ↦
          let added : sum + load i (drop (j + 1) a.legs) (drop (j + 1) xs) ≡ load i a.legs xs = load_unnamed i a.legs xs j sum _ listed held (sym c.uses_leg.ensures.uses ∙ w.if-uses_leg.false) c.loop-product.invariant.counted in
          record { counted = omega (arith, added, w.seats-is); limit = omega (arith, w.seats-is, c.loop-product.invariant.limit) }
    ]

pub returns : goal.returns
returns c =
    let a = c.args.program.now in
    let counts = lengths_are (length a.caps) a.bounds a.fares a.legs c.product_count-product-end.ensures.limits.products in
    load_done c.args.leg a.legs (sizes c.args.certificate.now.x) c.loop-product.product c.loop-product.seats _ (omega (arith, counts.1)) c.loop-product.invariant.counted
