-- One leg more adds its price, unless it is the one that is left out.
use Rattle.std.proofs.Common.{ℕ, ℤ, ◌∙◌, List, length, get_or, pos, nat_abs, to_z, of_z, w64, ap, arith}
use Rattle.nrm_fraction.specs.Large.{size_limit}
use Rattle.nrm_lp.specs.Certified.{sizes}
use Rattle.nrm_virtual.proofs.Prices.{others-no, others-yes, price-at, price-read}
use Rattle.nrm_virtual.proofs.fares.other_prices.Goals as goal
use Rattle.nrm_virtual.proofs.fares.other_prices.Goals.{then-other-leg, else-other-leg}

pub loop-other-preserved : goal.loop-other-preserved
loop-other-preserved c =
    let p : List ℕ = sizes c.args.cert.now.p in
    let legs : List ℕ = c.args.legs.now in
    let k : ℕ = c.loop-other.other-index in
    let leg : ℕ = get_or legs k 0 in
    elim c.if-other-leg.branch [
      | then-other-leg w ↦
          let more = others-yes p legs c.args.leg k c.loop-other-test.true w.if-other-leg.true in
          let low = c.requires.legs k 0 c.loop-other-test.true in
          let (is, below) = price-at size_limit (length c.args.cert.now.p) c.args.cert.now c.requires.prices leg (pos 0) low in
          let price = w.unsigned_abs-sum.ensures.value ∙ ap (λ (ps : List ℤ). nat_abs (to_z w64 (of_z w64 (get_or ps leg (pos 0))))) w.as_slice.ensures ∙ price-read (length c.args.cert.now.p) c.args.cert.now c.requires.prices leg low in
          record { sum = omega arith; within = omega arith }
      | else-other-leg w ↦
          let more = others-no p legs c.args.leg k c.loop-other-test.true w.if-other-leg.false in
          record { sum = omega arith; within = omega arith }
    ]
