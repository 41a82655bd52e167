use Rattle.std.proofs.Common.{◌+◌, refl}
use Rattle.nrm_book.specs.Seats.{CanRise}
use Rattle.nrm_book.proofs.CountChanges.{all-done, none-yet, one_more, rise-apart}
use Rattle.nrm_book.proofs.seats.rise.Goals as goal

pub loop-leg-init : goal.loop-leg-init
loop-leg-init c = none-yet (λ sold. sold + c.args.party) (λ counts i. CanRise counts i c.args.party) (rise-apart c.args.party) c.args.counts.now c.args.legs.now c.requires.fits

pub loop-leg-preserved : goal.loop-leg-preserved
loop-leg-preserved c =
    one_more (λ sold. sold + c.args.party) (λ counts i. CanRise counts i c.args.party) (rise-apart c.args.party) c.args.counts.now c.loop-leg.counts _ c.args.legs.now c.loop-leg.leg-index
    c.requires.distinct c.loop-leg-test.true c.loop-leg.invariant refl

pub returns : goal.returns
returns c = all-done (λ sold. sold + c.args.party) (λ counts i. CanRise counts i c.args.party) (rise-apart c.args.party) c.args.counts.now c.loop-leg.counts c.args.legs.now c.loop-leg.leg-index c.loop-leg.invariant c.loop-leg-test.false
