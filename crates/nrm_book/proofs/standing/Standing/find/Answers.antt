use Rattle.std.proofs.Common.{◌∙◌, ap}
use Rattle.nrm_book.specs.Standing.{StandingValue}
use Rattle.nrm_book.proofs.Rows.{row-absent, row-found}
use Rattle.nrm_book.proofs.standing.Standing.find.Goals as goal

pub returns-in_err-place : goal.returns-in_err-place
returns-in_err-place c =
    let seen = ap (λ (s : StandingValue). s.items) c.self.view_is in
    c.from_residual.ensures ∙ row-absent c.self.inside.slots.items c.deref.result.now c.args.self.now.items c.args.number c.deref.ensures.value seen c.in_err-place.ensures

pub returns : goal.returns
returns c =
    let seen = ap (λ (s : StandingValue). s.items) c.self.view_is in
    c.booking.ensures ∙ row-found c.self.inside.slots.items c.deref.result.now c.args.self.now.items c.args.number c.deref.ensures.value seen c.in_ok-place.place c.index.result.now c.in_ok-place.ensures c.index.ensures c.self.invariant.rising
