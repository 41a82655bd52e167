use Rattle.std.proofs.Common.{ℕ, ◌∙◌, length, map, Vec, sym, ap, subst, arith}
use Rattle.std.specs.declared.alloc.Global.{Global}
use Rattle.std.proofs.lemmas.List.{length-map}
use Rattle.nrm_book.specs.contracts.book.Book.{the_view}
use Rattle.nrm_book.specs.Bookings.{booking_numbered, without}
use Rattle.nrm_book.specs.Book.{BookValue, IsBook}
use Rattle.nrm_book.specs.Standing.{StandingValue}
use Rattle.nrm_book.specs.Stored.{IsStored}
use Rattle.nrm_book.proofs.Kept.{IsBook-removed, live-place, sold-short}
use Rattle.nrm_book.proofs.BookedCounts.{can-give_back, given_back-next, legs-read}
use Rattle.nrm_book.proofs.Revenues.{revenue-less}
use Rattle.nrm_book.proofs.book.Book.remove.Goals as goal

-- where the number isn't live, the list is as it was
pub invariant_of-self : goal.invariant_of-self
invariant_of-self c =
    let inside = c.self.inside in
    let P : StandingValue → Type 0 = λ list. IsStored (record { inventory = record { authorised = inside.authorised.items; fares = inside.fares.items; legs = map (λ v. v.items) inside.legs.items }; bookings = list.items; next = list.next }) list inside.sold inside.revenue in
    subst P (sym c.in_err-booking.ensures.dead) c.self.invariant

pub legs_of-requires : goal.legs_of-requires
legs_of-requires c =
    let short = sold-short (the_view c.self.inside) c.args.number c.in_ok-booking.booking c.self.invariant.sound c.in_ok-booking.ensures.booking in
    omega (arith, short, ap length c.deref.ensures.value, length-map c.self.inside.legs.items (λ (v : Vec ℕ Global). v.items))

pub worth-requires : goal.worth-requires
worth-requires c =
    let short = sold-short (the_view c.self.inside) c.args.number c.in_ok-booking.booking c.self.invariant.sound c.in_ok-booking.ensures.booking in
    omega (arith, short, ap length c.deref-2.ensures.value, c.self.invariant.sound.inventory.fare_count)

pub give_back-requires : goal.give_back-requires
give_back-requires c =
    let own = legs-read c.deref.result.now c.legs_of.result.now c.in_ok-booking.booking.product c.deref.ensures.value c.legs_of.ensures in
    let (k, short, read, gone) = live-place c.self.inside.bookings.items c.args.number c.in_ok-booking.booking c.self.invariant.sound.rising c.in_ok-booking.ensures.booking in
    let left = (IsBook-removed _ c.args.number _ _ c.self.invariant.sound c.in_ok-booking.ensures.items c.in_ok-booking.ensures.next).products in
    let can = can-give_back _ c.self.inside.sold k c.in_ok-booking.booking c.legs_of.result.now _ c.self.invariant.sound c.self.invariant.seats c.self.invariant.distinct short read own (c.in_ok-booking.ensures.items ∙ sym gone) left in
    record { distinct = can.0; product = can.1; legs = can.2 }

pub overflow_sub-self : goal.overflow_sub-self
overflow_sub-self c =
    let (k, short, read, gone) = live-place c.self.inside.bookings.items c.args.number c.in_ok-booking.booking c.self.invariant.sound.rising c.in_ok-booking.ensures.booking in
    let less = (revenue-less _ _ k c.in_ok-booking.booking _ _ _ c.self.invariant.sound c.self.invariant.worth (c.in_ok-booking.ensures.items ∙ sym gone) short read c.deref-2.ensures.value c.worth.ensures).0 in
    omega arith

pub invariant_of-self-2 : goal.invariant_of-self-2
invariant_of-self-2 c =
    let (k, short, read, gone) = live-place c.self.inside.bookings.items c.args.number c.in_ok-booking.booking c.self.invariant.sound.rising c.in_ok-booking.ensures.booking in
    let sound = IsBook-removed _ c.args.number _ _ c.self.invariant.sound c.in_ok-booking.ensures.items c.in_ok-booking.ensures.next in
    record {
      sound = sound;
      distinct = c.self.invariant.distinct;
      seats =
          let own = legs-read c.deref.result.now c.legs_of.result.now c.in_ok-booking.booking.product c.deref.ensures.value c.legs_of.ensures in
          given_back-next _ c.self.inside.sold k c.in_ok-booking.booking c.legs_of.result.now _ c.self.invariant.sound c.self.invariant.seats c.self.invariant.distinct short read own (c.in_ok-booking.ensures.items ∙ sym gone) sound.products c.give_back.new.self c.give_back.ensures;
      room = omega (arith, c.self.invariant.room, c.in_ok-booking.ensures.room);
      worth = (revenue-less _ _ k c.in_ok-booking.booking _ _ _ c.self.invariant.sound c.self.invariant.worth (c.in_ok-booking.ensures.items ∙ sym gone) short read c.deref-2.ensures.value c.worth.ensures).1;
    }

pub returns-clause-booking : goal.returns-clause-booking
returns-clause-booking c = c.in_ok-booking.ensures.booking ∙ ap (λ (book : BookValue). booking_numbered book.bookings c.args.number) c.self.view_is

pub returns-clause-removed : goal.returns-clause-removed
returns-clause-removed c =
    let items = c.in_ok-booking.ensures.items ∙ ap (λ (book : BookValue). without book.bookings c.args.number) c.self.view_is in
    let next = c.in_ok-booking.ensures.next ∙ ap (λ (book : BookValue). book.next) c.self.view_is in
    λ k. record { inventory = (c.self.view_is k).inventory; bookings = items k; next = next k }

pub returns-clause-within : goal.returns-clause-within
returns-clause-within c =
    let (k, short, read, gone) = live-place c.self.inside.bookings.items c.args.number c.in_ok-booking.booking c.self.invariant.sound.rising c.in_ok-booking.ensures.booking in
    sold-short c.args.self.now c.args.number c.in_ok-booking.booking (subst IsBook c.self.view_is c.self.invariant.sound) (returns-clause-booking c)

pub returns-clause-sound : goal.returns-clause-sound
returns-clause-sound c = (invariant_of-self-2 c).sound
