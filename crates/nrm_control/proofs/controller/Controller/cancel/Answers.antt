use Rattle.std.proofs.Common.{◌∙◌, ◌-◌, ◌*◌, Some, ap, option_map, refl, subst, sym}
use Rattle.nrm_book.specs.Bookings.{booking_numbered}
use Rattle.nrm_control.specs.Refunds.{refund_of}
use Rattle.nrm_control.specs.Standing.{ControlValue, IsInForce}
use Rattle.nrm_control.proofs.Inventories.{product-within}
use Rattle.nrm_control.proofs.AfterCalls.{control-of, kept-cancelled}
use Rattle.nrm_control.proofs.Cancellations.{refund-is, withheld-is}
use Rattle.nrm_control.proofs.States.{cancelled-stands, removed-is, without_booking}
use Rattle.nrm_control.proofs.controller.Controller.cancel.Goals as goal

pub product_at-product-requires : goal.product_at-product-requires
product_at-product-requires c = product-within c.self.inside.network c.self.inside.book.inventory c.in_ok-booking.booking.product c.self.invariant.inventory c.in_ok-booking.ensures.within

pub returns-clause-refund : goal.returns-clause-refund
returns-clause-refund c =
    let booking = c.in_ok-booking.booking in
    let product = c.product_at-product.result.now in
    ap Some c.refund_for-refund.ensures
    ∙ refund-is c.self.inside.network c.self.inside.book.bookings c.args.number booking product booking.party product.fare product.refund
    c.in_ok-booking.ensures.booking c.product_at-product.ensures.product refl refl refl
    ∙ ap (λ (control : ControlValue). option_map (refund_of control.net) (booking_numbered control.bookings c.args.number)) c.self.view_is

pub invariant_of-self-2 : goal.invariant_of-self-2
invariant_of-self-2 c =
    let inside = c.self.inside in
    let booking = c.in_ok-booking.booking in
    let product = c.product_at-product.result.now in
    let rest = c.from-3.ensures ∙ (λ n. c.from.ensures n * c.from-2.ensures n - c.refund_for-refund.ensures n) in
    let grown = withheld-is inside.network inside.book.bookings c.args.number booking product booking.party product.fare product.refund
    c.in_ok-booking.ensures.booking c.product_at-product.ensures.product refl refl refl inside.withheld c.from-3.result rest in
    subst (IsInForce inside.network inside.plan c.remove.new.self inside.tallies.items) (sym grown)
    (kept-cancelled inside.network inside.plan inside.book inside.tallies.items inside.withheld c.self.invariant c.remove.new.self c.args.number c.remove.ensures.removed c.remove.ensures.sound)

pub returns-clause-sound : goal.returns-clause-sound
returns-clause-sound c = control-of c.self.inside.network c.self.inside.plan c.remove.new.self c.self.inside.tallies.items _ (invariant_of-self-2 c)

pub returns-clause-removed : goal.returns-clause-removed
returns-clause-removed c =
    let inside = c.self.inside in
    let booking = c.in_ok-booking.booking in
    let product = c.product_at-product.result.now in
    let rest = c.from-3.ensures ∙ (λ n. c.from.ensures n * c.from-2.ensures n - c.refund_for-refund.ensures n) in
    let grown = withheld-is inside.network inside.book.bookings c.args.number booking product booking.party product.fare product.refund
    c.in_ok-booking.ensures.booking c.product_at-product.ensures.product refl refl refl inside.withheld c.from-3.result rest in
    removed-is inside.network inside.plan inside.book c.remove.new.self inside.tallies.items inside.withheld _ c.args.number c.remove.ensures.removed grown
    ∙ ap (λ (control : ControlValue). without_booking control c.args.number) c.self.view_is

pub returns-clause-state : goal.returns-clause-state
returns-clause-state c =
    let inside = c.self.inside in
    let booking = c.in_ok-booking.booking in
    let product = c.product_at-product.result.now in
    let rest = c.from-3.ensures ∙ (λ n. c.from.ensures n * c.from-2.ensures n - c.refund_for-refund.ensures n) in
    let grown = withheld-is inside.network inside.book.bookings c.args.number booking product booking.party product.fare product.refund
    c.in_ok-booking.ensures.booking c.product_at-product.ensures.product refl refl refl inside.withheld c.from-3.result rest in
    cancelled-stands _ c.args.self.now _ c.args.number c.self.view_is
    (removed-is inside.network inside.plan inside.book c.remove.new.self inside.tallies.items inside.withheld _ c.args.number c.remove.ensures.removed grown)
