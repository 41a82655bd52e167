-- One leg more, and one draw.
use Rattle.nrm_gen.specs.MadeNetwork.{made_leg}
use Rattle.nrm_gen.proofs.Rows.{row-more}
use Rattle.nrm_gen.proofs.network.made_legs.Goals as goal

pub loop-leg-preserved : goal.loop-leg-preserved
loop-leg-preserved c = record {
  legs = λ number begun. row-more (made_leg number) c.loop-leg.leg _ _ _ (c.loop-leg.invariant.legs number begun)
      (c.in_ok-made_leg.ensures.leg number (c.loop-leg.invariant.state number begun)) c.in_ok-push.ensures.items;
  state = λ number begun. c.in_ok-made_leg.ensures.state number (c.loop-leg.invariant.state number begun);
}
