use Rattle.std.proofs.Common.{ℕ, arith}
use Rattle.nrm_model.specs.declared.limits.TheConstants.{MOST_PARTY}
use Rattle.nrm_account.specs.Largest.{open_seats}
use Rattle.nrm_account.proofs.LeastOpen.{least_of-more}
use Rattle.nrm_account.proofs.largest.least_open.Goals as goal

pub loop-leg-preserved : goal.loop-leg-preserved
loop-leg-preserved c =
    let own : ℕ → ℕ = open_seats c.args.net.now c.args.plan.now c.args.book.now.bookings c.args.product in
    let more = least_of-more MOST_PARTY own c.args.legs.now c.loop-leg.leg-index c.loop-leg-test.true in
    let before = c.loop-leg.invariant.least in
    let opened = c.open_seats.ensures in
    let least = c.min-least.ensures in
    record {
      least = omega (arith, more, before, opened, least);
      within = omega (arith, c.loop-leg.invariant.within, least);
    }
