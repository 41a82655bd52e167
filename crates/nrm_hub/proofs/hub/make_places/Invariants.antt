-- Places were added.
use Rattle.std.proofs.Common.{◌+◌, ◌-◌, vec_len}
use Rattle.nrm_hub.specs.Inner.Seats.{HasPlaces}
use Rattle.nrm_hub.proofs.hub.make_places.Given as goal

abbrev pub invariant-loop-clients : goal.invariant-loop-clients
invariant-loop-clients l = HasPlaces l.initial.clients.items l.clients.items

abbrev pub decreases-loop-clients : goal.decreases-loop-clients
decreases-loop-clients l = l.place + 1 - vec_len l.clients
