use Rattle.std.proofs.Common.{ℕ, ◌≡◌, ◌+◌, map}
use Rattle.std.specs.List.{range_with_len}
use Rattle.nrm_gen.specs.Draws.{draw_of, state_after}
use Rattle.nrm_gen.proofs.network.made_demand.Given as goal

abbrev pub invariant-loop-place : goal.invariant-loop-place
invariant-loop-place l = record {
  demand : (number : ℕ) → l.fn.draws ≡ state_after number 72
      → l.demand.items ≡ map (λ k. draw_of number (72 + k) 6) (range_with_len 0 l._place);
  state : (number : ℕ) → l.fn.draws ≡ state_after number 72 → l.draws ≡ state_after number (72 + l._place);
}
