-- A booking that stands is of a product of the network.
use Rattle.std.proofs.Common.{ℕ, ◌≡◌, ◌∙◌, ◌<◌, Some, get_or, length, sym, subst}
use Rattle.nrm_book.specs.Book.{IsBook}
use Rattle.nrm_book.specs.Bookings.{booking_numbered}
use Rattle.nrm_book.specs.declared.booking.Booking.{Booking}
use Rattle.nrm_control.proofs.Cancellations.{live-place}
use Rattle.nrm_control.proofs.Inventories.{product-of-inventory}
use Rattle.nrm_control.specs.Standing.{ControlValue, book_of}
use Rattle.nrm_model.specs.Network.{NetworkValue}
use Rattle.nrm_account.proofs.reasons.push_reasons.Goals as goal

own-product : (control : ControlValue) (number : ℕ) (b : Booking) → IsBook (book_of control) → booking_numbered control.bookings number ≡ Some b → b.product < length control.net.products
own-product control number b is live =
    let (k, short, read, gone) = live-place control.bookings number b is.rising live in
    subst (λ (b : Booking). b.product < length control.net.products) (sym read) (product-of-inventory control.net (get_or control.bookings k b).product (is.products k b short))

pub push_cancellation-requires : goal.push_cancellation-requires
push_cancellation-requires c =
    let control = c.args.controller.now in
    let live : booking_numbered control.bookings c.in-Cancel.number ≡ Some c.in-Some-find.live =
    (λ n. booking_numbered ((sym c.book.ensures.book n).bookings) c.in-Cancel.number) ∙ sym c.find.ensures ∙ c.in-Some-find.is in
    subst (λ (net : NetworkValue). c.in-Some-find.live.product < length net.products) (sym c.network-net.ensures.network)
    (own-product control c.in-Cancel.number c.in-Some-find.live c.book.ensures.sound.book live)
