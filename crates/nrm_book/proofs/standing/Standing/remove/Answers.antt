use Rattle.std.proofs.Common.{◌≡◌, ◌∙◌, Some, sym, ap}
use Rattle.nrm_book.specs.Standing.{IsRow, StandingValue, standing}
use Rattle.nrm_book.proofs.Rows.{IsRow-emptied, dead-stay, row-absent, row-emptied, row-found, row-short}
use Rattle.nrm_book.proofs.standing.Standing.remove.Goals as goal

pub returns-in_err-place-clause-booking : goal.returns-in_err-place-clause-booking
returns-in_err-place-clause-booking c =
    let seen = ap (λ (s : StandingValue). s.items) c.self.view_is in
    c.from_residual.ensures ∙ row-absent c.self.inside.slots.items c.deref.result.now c.args.self.now.items c.args.number c.deref.ensures.value seen c.in_err-place.ensures

pub returns-in_err-place-clause-items : goal.returns-in_err-place-clause-items
returns-in_err-place-clause-items c =
    let seen = ap (λ (s : StandingValue). s.items) c.self.view_is in
    sym (dead-stay c.args.number c.args.self.now.items (sym (row-absent c.self.inside.slots.items c.deref.result.now c.args.self.now.items c.args.number c.deref.ensures.value seen c.in_err-place.ensures)))

pub returns-in_err-booking-clause-booking : goal.returns-in_err-booking-clause-booking
returns-in_err-booking-clause-booking c =
    let seen = ap (λ (s : StandingValue). s.items) c.self.view_is in
    c.from_residual-in_err-booking.ensures ∙ c.in_err-booking.ensures
    ∙ row-found c.self.inside.slots.items c.deref.result.now c.args.self.now.items c.args.number c.deref.ensures.value seen c.in_ok-place.place c.index.result.now c.in_ok-place.ensures c.index.ensures c.self.invariant.rising

pub returns-in_err-booking-clause-items : goal.returns-in_err-booking-clause-items
returns-in_err-booking-clause-items c =
    let seen = ap (λ (s : StandingValue). s.items) c.self.view_is in
    sym (dead-stay c.args.number c.args.self.now.items
    (sym (c.in_err-booking.ensures ∙ row-found c.self.inside.slots.items c.deref.result.now c.args.self.now.items c.args.number c.deref.ensures.value seen c.in_ok-place.place c.index.result.now c.in_ok-place.ensures c.index.ensures c.self.invariant.rising)))

pub empty_slot-requires : goal.empty_slot-requires
empty_slot-requires c =
    let seen = ap (λ (s : StandingValue). s.items) c.self.view_is in
    row-short c.self.inside.slots.items c.deref.result.now c.args.self.now.items c.args.number c.deref.ensures.value seen c.in_ok-place.place c.index.result.now c.in_ok-place.ensures c.index.ensures

pub invariant_of-self : goal.invariant_of-self
invariant_of-self c =
    let seen = ap (λ (s : StandingValue). s.items) c.self.view_is in
    let short = row-short c.self.inside.slots.items c.deref.result.now c.args.self.now.items c.args.number c.deref.ensures.value seen c.in_ok-place.place c.index.result.now c.in_ok-place.ensures c.index.ensures in
    rw (c.empty_slot.ensures.slot c.index.result.now c.index.ensures) (IsRow-emptied c.self.inside.slots.items c.self.inside.next c.in_ok-place.place c.index.result.now c.self.invariant short c.index.ensures)

pub returns-clause-booking : goal.returns-clause-booking
returns-clause-booking c =
    let seen = ap (λ (s : StandingValue). s.items) c.self.view_is in
    c.in_ok-booking.ensures
    ∙ row-found c.self.inside.slots.items c.deref.result.now c.args.self.now.items c.args.number c.deref.ensures.value seen c.in_ok-place.place c.index.result.now c.in_ok-place.ensures c.index.ensures c.self.invariant.rising

pub returns-clause-items : goal.returns-clause-items
returns-clause-items c =
    let seen = ap (λ (s : StandingValue). s.items) c.self.view_is in
    ap standing (c.empty_slot.ensures.slot c.index.result.now c.index.ensures)
    ∙ row-emptied c.self.inside.slots.items c.deref.result.now c.args.self.now.items c.args.number c.deref.ensures.value seen c.in_ok-place.place c.index.result.now c.in_ok-place.ensures c.index.ensures c.self.invariant.rising
