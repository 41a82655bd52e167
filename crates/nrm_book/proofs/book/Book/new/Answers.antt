use Rattle.std.proofs.Common.{◌∙◌, length, sum, refl, ap, arith}
use Rattle.std.proofs.lemmas.List.{length-map}
use Rattle.nrm_model.specs.declared.leg.Leg.{Leg}
use Rattle.nrm_book.proofs.EmptyBooks.{IsBook-of, counts-of, distinct-of, seats-within}
use Rattle.nrm_book.proofs.book.Book.new.Goals as goal

pub seats_in_all-requires : goal.seats_in_all-requires
seats_in_all-requires c =
    let same = ap length (c.deref.ensures.value ∙ c.in_ok-authorised.ensures.seats) in
    let count = c.authorised_of_legs.ensures.limits.leg_count in
    omega (arith, length-map c.args.net.now.legs (λ (leg : Leg). leg.authorised))

pub with_room-requires : goal.with_room-requires
with_room-requires c =
    let within = seats-within c.args.net.now c.authorised_of_legs.ensures.limits c.deref.result.now (c.deref.ensures.value ∙ c.in_ok-authorised.ensures.seats) in
    omega (arith, c.seats_in_all.ensures)

pub invariant_of-result : goal.invariant_of-result
invariant_of-result c = record {
  sound = IsBook-of c.args.net.now _ _ _ _ _ c.authorised_of_legs.ensures.limits c.in_ok-authorised.ensures.seats c.in_ok-fares.ensures.fares c.in_ok-legs.ensures.legs c.in_ok-bookings.ensures.items c.in_ok-bookings.ensures.next;
  distinct = distinct-of c.args.net.now _ c.authorised_of_legs.ensures.limits c.in_ok-legs.ensures.legs;
  seats = counts-of c.args.net.now _ _ _ _ c.in_ok-sold.sold c.in_ok-authorised.ensures.seats c.in_ok-fares.ensures.fares c.in_ok-legs.ensures.legs c.in_ok-bookings.ensures.items c.in_ok-sold.ensures;
  room =
      let seats = c.seats_in_all.ensures ∙ ap sum c.deref.ensures.value in
      omega (arith, c.in_ok-bookings.ensures.room);
  worth = rw c.in_ok-bookings.ensures.items refl;
}

pub returns-clause-sound : goal.returns-clause-sound
returns-clause-sound c = (invariant_of-result c).sound
