use Rattle.std.proofs.Common.{◌≡◌, ◌≤◌, ◌∷◌, map, take}
use Rattle.nrm_model.specs.Network.{least_of}
use Rattle.nrm_model.specs.declared.limits.TheConstants.{MOST_PARTY}
use Rattle.nrm_account.specs.Largest.{open_seats}
use Rattle.nrm_account.proofs.largest.least_open.Given as goal

-- the least of those so far
abbrev pub invariant-loop-leg : goal.invariant-loop-leg
invariant-loop-leg l = record {
  least : l.least ≡ least_of (MOST_PARTY ∷ map (open_seats l.net l.plan l.book.bookings l.product) (take l.leg-index l.legs));
  within : l.least ≤ MOST_PARTY;
}
