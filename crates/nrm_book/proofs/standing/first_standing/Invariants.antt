use Rattle.std.proofs.Common.{◌≡◌, drop}
use Rattle.nrm_book.specs.Standing.{standing}
use Rattle.nrm_book.proofs.standing.first_standing.Given as goal

-- none stands in the slots so far
abbrev pub invariant-loop-place : goal.invariant-loop-place
invariant-loop-place l = standing l.slots ≡ standing (drop l.place l.slots)
