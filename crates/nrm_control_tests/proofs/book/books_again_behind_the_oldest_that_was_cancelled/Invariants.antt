use Rattle.std.proofs.Common.{◌≡◌}
use Rattle.nrm_model.specs.Inventory.{inventory_of}
use Rattle.nrm_samples.specs.Networks.{two_legs}
use Rattle.nrm_control_tests.proofs.book.books_again_behind_the_oldest_that_was_cancelled.Given as goal

-- it stays the book of the network
abbrev pub invariant-loop-oldest : goal.invariant-loop-oldest
invariant-loop-oldest g l = l.book.inventory ≡ inventory_of two_legs
