use Rattle.std.proofs.Common.{◌<◌, length, sym, ap, subst, arith}
use Rattle.nrm_book.specs.Book.{BookValue}
use Rattle.nrm_book.proofs.BookedCounts.{can-sell, legs-read, sold-next}
use Rattle.nrm_book.proofs.Kept.{IsBook-grown, room-left}
use Rattle.nrm_book.proofs.Revenues.{revenue-more, revenue-within}
use Rattle.nrm_book.proofs.book.Book.load.Goals as goal

pub push-requires : goal.push-requires
push-requires c =
    let left = room-left _ c.args.self.now c.args.booking c.self.view_is c.self.invariant.sound c.requires in
    let next = ap (λ (book : BookValue). book.next) c.self.view_is in
    record {
      room = omega (arith, c.self.invariant.room);
      number = omega (arith, c.requires.number);
      low = c.requires.low;
    }

pub invariant_of-self : goal.invariant_of-self
invariant_of-self c = record {
  sound = IsBook-grown _ c.args.self.now c.args.booking _ _ c.self.view_is c.self.invariant.sound c.requires c.push.ensures.items c.push.ensures.next;
  distinct = c.self.invariant.distinct;
  seats =
      let short = subst (λ (book : BookValue). c.args.booking.product < length book.inventory.legs) (sym c.self.view_is) c.requires.product in
      let legs = legs-read c.deref.result.now c.legs_of.result.now c.args.booking.product c.deref.ensures.value c.legs_of.ensures in
      sold-next _ c.self.inside.sold c.sell.new.self c.args.booking c.legs_of.result.now _ c.self.invariant.sound c.self.invariant.seats c.self.invariant.distinct short legs c.sell.ensures c.push.ensures.items;
  room = omega (arith, c.self.invariant.room, c.push.ensures.room);
  worth = revenue-more _ _ _ _ _ _ c.self.invariant.sound c.self.invariant.worth c.push.ensures.items c.deref-2.ensures.value c.worth.ensures;
}

pub overflow_add-self : goal.overflow_add-self
overflow_add-self c =
    let after = IsBook-grown _ c.args.self.now c.args.booking _ _ c.self.view_is c.self.invariant.sound c.requires c.push.ensures.items c.push.ensures.next in
    let more = revenue-more _ _ _ _ _ _ c.self.invariant.sound c.self.invariant.worth c.push.ensures.items c.deref-2.ensures.value c.worth.ensures in
    let within = revenue-within _ after in
    omega arith

pub returns-clause-sound : goal.returns-clause-sound
returns-clause-sound c = (invariant_of-self c).sound

pub sell-requires : goal.sell-requires
sell-requires c =
    let short = subst (λ (book : BookValue). c.args.booking.product < length book.inventory.legs) (sym c.self.view_is) c.requires.product in
    let legs = legs-read c.deref.result.now c.legs_of.result.now c.args.booking.product c.deref.ensures.value c.legs_of.ensures in
    let can = can-sell _ c.self.inside.sold c.args.booking.product c.args.booking.party c.legs_of.result.now c.self.invariant.sound c.self.invariant.seats c.self.invariant.distinct short legs c.requires.party.1 in
    record { distinct = can.0; product = can.1; legs = can.2 }
