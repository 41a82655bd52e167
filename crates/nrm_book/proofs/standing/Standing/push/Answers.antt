use Rattle.std.proofs.Common.{◌≡◌, ◌∙◌, ◌++◌, ◌∷◌, [], List, length, ap, arith}
use Rattle.nrm_book.specs.declared.booking.Booking.{Booking}
use Rattle.nrm_book.specs.Standing.{StandingValue, standing}
use Rattle.nrm_book.proofs.Rows.{IsRow-more, one-stands}
use Rattle.nrm_book.proofs.standing.Standing.push.Goals as goal

pub make_room-requires : goal.make_room-requires
make_room-requires c =
    let items = ap (λ (s : StandingValue). length s.items) c.self.view_is in
    let room = ap (λ (s : StandingValue). s.room) c.self.view_is in
    omega (arith, c.requires.room)

pub invariant_of-self : goal.invariant_of-self
invariant_of-self c =
    let next = ap (λ (s : StandingValue). s.next) c.self.view_is in
    rw c.push_reserved.ensures.items (IsRow-more c.make_room.new.slots.items c.self.inside.next c.of.result c.args.booking.number (c.make_room.ensures.row c.self.inside.next c.self.invariant) c.of.ensures.number (omega (arith, c.requires.number)))

pub returns-clause-items : goal.returns-clause-items
returns-clause-items c =
    let items = c.make_room.ensures.stand ∙ ap (λ (s : StandingValue). s.items) c.self.view_is in
    ap standing c.push_reserved.ensures.items ∙ one-stands c.make_room.new.slots.items c.of.result c.args.booking c.of.ensures.stands
    ∙ ap (λ (bs : List Booking). bs ++ c.args.booking ∷ []) items
