-- With no demand above, none are protected; else the demand at the greatest count that passes is the least that suffices.
use Rattle.std.proofs.Common.{ℕ, ◌∙◌, ◌<◌, nat_abs, min, slice_index, sym, ap, ap₂, arith}
use Rattle.nrm_fraction.proofs.Sizes.{positive_abs}
use Rattle.nrm_emsr.specs.Inner.Sums.{crosses}
use Rattle.nrm_emsr.specs.Inner.Ranked.{greatest_count}
use Rattle.nrm_emsr.proofs.Crossing.{enough-is, none-enough}
use Rattle.nrm_emsr.proofs.levels.enough_for.Goals as goal

pub returns-then-above-eq0 : goal.returns-then-above-eq0
returns-then-above-eq0 c period are =
    none-enough c.args.net.now c.args.cert.now c.args.leg period c.args.last (sym are.seats ∙ c.if-above-eq0.true)

pub returns : goal.returns
returns c period are =
    let some : 0 < nat_abs c.args.cert.now.den = (positive_abs c.args.cert.now.den c.requires.prices.some_den).1 in
    let last : ℕ = c.args.last in
    let positive : 0 < c.args.above.seats = omega (arith, c.if-above-eq0.false) in
    let most = c.most_that_pass-most.ensures
    ∙ ap (λ (n : ℕ). greatest_count (λ count. crosses count c.args.above.fares c.args.above.seats n c.next_fare-next.result.fares c.next_fare-next.result.seats) n) c.n.ensures.histories in
    c.capped.ensures ∙ ap₂ min c.cap_of.ensures (c.demand_at.ensures ∙ ap (slice_index c.args.ranked.now) most)
    ∙ enough-is c.args.net.now c.args.cert.now c.args.leg period some last c.args.above c.args.next c.args.ranked.now are positive c.next_fare-next.result.fares c.next_fare-next.result.seats c.next_fare-next.ensures.fares c.next_fare-next.ensures.seats c.requires.last
