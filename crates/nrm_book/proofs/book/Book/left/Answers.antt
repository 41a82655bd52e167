use Rattle.std.proofs.Common.{◌≡◌, ap, subst, arith}
use Rattle.nrm_book.specs.Book.{BookValue, IsBook}
use Rattle.nrm_book.specs.Seats.{seats_sold}
use Rattle.nrm_book.proofs.BookedCounts.{counted-on}
use Rattle.nrm_book.proofs.Revenues.{number-read}
use Rattle.nrm_book.proofs.book.Book.left.Goals as goal

pub on-requires : goal.on-requires
on-requires c =
    let are = subst (λ (book : BookValue). c.self.inside.sold ≡ seats_sold book.inventory book.bookings) c.self.view_is c.self.invariant.seats in
    (counted-on c.args.self.now.inventory c.args.self.now.bookings c.self.inside.sold c.args.leg are c.requires).0

pub overflow_sub-result : goal.overflow_sub-result
overflow_sub-result c =
    let are = subst (λ (book : BookValue). c.self.inside.sold ≡ seats_sold book.inventory book.bookings) c.self.view_is c.self.invariant.seats in
    let sold = (counted-on c.args.self.now.inventory c.args.self.now.bookings c.self.inside.sold c.args.leg are c.requires).1 in
    let seats = number-read c.self.inside.authorised.items c.args.self.now.inventory.authorised c.args.leg c.index.result.now (ap (λ (book : BookValue). book.inventory.authorised) c.self.view_is) c.requires c.index.ensures in
    let within = (subst IsBook c.self.view_is c.self.invariant.sound).seats c.args.leg c.requires in
    omega (arith, c.on.ensures)

pub returns-clause-left : goal.returns-clause-left
returns-clause-left c =
    let are = subst (λ (book : BookValue). c.self.inside.sold ≡ seats_sold book.inventory book.bookings) c.self.view_is c.self.invariant.seats in
    let sold = (counted-on c.args.self.now.inventory c.args.self.now.bookings c.self.inside.sold c.args.leg are c.requires).1 in
    let seats = number-read c.self.inside.authorised.items c.args.self.now.inventory.authorised c.args.leg c.index.result.now (ap (λ (book : BookValue). book.inventory.authorised) c.self.view_is) c.requires c.index.ensures in
    omega (arith, c.on.ensures)

pub returns-clause-sold : goal.returns-clause-sold
returns-clause-sold c =
    let is = subst IsBook c.self.view_is c.self.invariant.sound in
    let sound = is.seats c.args.leg c.requires in
    let left = returns-clause-left c in
    omega (arith, sound, left)
