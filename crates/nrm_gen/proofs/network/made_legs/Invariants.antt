use Rattle.std.proofs.Common.{ℕ, ◌≡◌, map}
use Rattle.std.specs.List.{range_with_len}
use Rattle.nrm_gen.specs.Draws.{state_after}
use Rattle.nrm_gen.specs.MadeNetwork.{made_leg}
use Rattle.nrm_gen.proofs.network.made_legs.Given as goal

abbrev pub invariant-loop-leg : goal.invariant-loop-leg
invariant-loop-leg l = record {
  legs : (number : ℕ) → l.fn.draws ≡ state_after number 0 → l.legs.items ≡ map (made_leg number) (range_with_len 0 l.leg);
  state : (number : ℕ) → l.fn.draws ≡ state_after number 0 → l.draws ≡ state_after number l.leg;
}
