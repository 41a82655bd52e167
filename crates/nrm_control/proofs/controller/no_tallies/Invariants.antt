use Rattle.std.proofs.Common.{◌≡◌, replicate}
use Rattle.nrm_control.proofs.controller.no_tallies.Given as goal

-- one for each product so far
abbrev pub invariant-loop : goal.invariant-loop
invariant-loop l = l.tallies.items ≡ replicate l.counter 0
