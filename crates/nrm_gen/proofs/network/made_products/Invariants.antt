use Rattle.std.proofs.Common.{ℕ, ◌≡◌, ◌+◌, map}
use Rattle.std.specs.List.{range_with_len}
use Rattle.nrm_gen.specs.Draws.{state_after}
use Rattle.nrm_gen.specs.MadeNetwork.{made_product}
use Rattle.nrm_gen.proofs.network.made_products.Given as goal

abbrev pub invariant-loop-product : goal.invariant-loop-product
invariant-loop-product l = record {
  products : (number : ℕ) → l.fn.draws ≡ state_after number 12 → l.products.items ≡ map (made_product number) (range_with_len 0 l.product);
  state : (number : ℕ) → l.fn.draws ≡ state_after number 12 → l.draws ≡ state_after number (12 + l.product);
}
