use Rattle.std.proofs.Common.{◌≡◌, filter}
use Rattle.std.specs.List.{range_with_len}
use Rattle.nrm_model.specs.Inventory.{uses_leg}
use Rattle.nrm_model.specs.Stored.{legs_alone}
use Rattle.nrm_model.proofs.network.products_using.Given as goal

-- those among the products so far
abbrev pub invariant-loop-number : goal.invariant-loop-number
invariant-loop-number l = l.numbers.items ≡ filter (uses_leg (legs_alone l.products) l.leg) (range_with_len 0 l.number)
