use Rattle.std.proofs.Common.{◌∙◌, ap, arith, length}
use Rattle.std.proofs.lemmas.List.FromFn.{length-map-range_with_len}
use Rattle.nrm_book.specs.Bookings.{left_on}
use Rattle.nrm_model.proofs.Lists.{map-number-more}
use Rattle.nrm_control.proofs.controller.seats_left.Goals as goal

pub push-requires : goal.push-requires
push-requires c = omega (arith, ap length c.loop-leg.invariant ∙ length-map-range_with_len (left_on c.args.book.now.inventory c.args.book.now.bookings) 0 c.loop-leg.leg, c.loop-leg-test.true, c.leg_count-leg-end.ensures)

pub loop-leg-preserved : goal.loop-leg-preserved
loop-leg-preserved c =
    map-number-more (left_on c.args.book.now.inventory c.args.book.now.bookings) c.push.ensures c.loop-leg.invariant c.left.ensures.left
