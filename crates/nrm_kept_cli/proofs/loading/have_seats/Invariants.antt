use Rattle.std.proofs.Common.{◌≡◌, drop, nat_le}
use Rattle.std.specs.List.{list_all}
use Rattle.nrm_model.specs.Inventory.{inventory_of}
use Rattle.nrm_book.specs.Bookings.{left_on}
use Rattle.nrm_kept_cli.proofs.loading.have_seats.Given as goal

-- the legs so far have the seats
abbrev pub invariant-loop-leg : goal.invariant-loop-leg
invariant-loop-leg l =
    list_all (λ i. nat_le l.party (left_on (inventory_of l.controller.net) l.controller.bookings i)) l.legs ≡ list_all (λ i. nat_le l.party (left_on (inventory_of l.controller.net) l.controller.bookings i)) (drop l.leg-index l.legs)
