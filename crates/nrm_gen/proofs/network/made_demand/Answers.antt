-- One draw more is the demand of the next place.
use Rattle.std.proofs.Common.{◌≡◌, ◌+◌, arith}
use Rattle.nrm_gen.specs.Draws.{draw_of}
use Rattle.nrm_gen.proofs.DrawLemmas.{next-number, next-state, whole-demand}
use Rattle.nrm_gen.proofs.Rows.{row-more}
use Rattle.nrm_gen.proofs.network.made_demand.Goals as goal

pub loop-place-preserved : goal.loop-place-preserved
loop-place-preserved c =
    let place = c.loop-place._place in
    let one_more : 72 + (place + 1) ≡ 72 + place + 1 = omega arith in
    record {
      demand = λ number begun. row-more (λ k. draw_of number (72 + k) 6) place _ _ _ (c.loop-place.invariant.demand number begun)
          (next-number number (72 + place) 6 _ _ _ (c.loop-place.invariant.state number begun) c.draw.ensures.state c.draw.ensures.number)
          c.in_ok-push.ensures.items;
      state = λ number begun. rw one_more
          (next-state number (72 + place) _ _ (c.loop-place.invariant.state number begun) c.draw.ensures.state);
    }

pub returns-clause-demand : goal.returns-clause-demand
returns-clause-demand c =
    λ number begun. whole-demand number c.loop-place._place _ (omega arith) (c.loop-place.invariant.demand number begun)
