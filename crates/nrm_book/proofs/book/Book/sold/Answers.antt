use Rattle.std.proofs.Common.{◌≡◌, ◌∙◌, subst}
use Rattle.nrm_book.specs.Book.{BookValue}
use Rattle.nrm_book.specs.Seats.{seats_sold}
use Rattle.nrm_book.proofs.BookedCounts.{counted-of}
use Rattle.nrm_book.proofs.book.Book.sold.Goals as goal

pub of-requires : goal.of-requires
of-requires c =
    let are = subst (λ (book : BookValue). c.self.inside.sold ≡ seats_sold book.inventory book.bookings) c.self.view_is c.self.invariant.seats in
    (counted-of c.args.self.now.inventory c.args.self.now.bookings c.self.inside.sold c.args.product are c.requires).0

pub returns : goal.returns
returns c =
    let are = subst (λ (book : BookValue). c.self.inside.sold ≡ seats_sold book.inventory book.bookings) c.self.view_is c.self.invariant.seats in
    c.of.ensures ∙ (counted-of c.args.self.now.inventory c.args.self.now.bookings c.self.inside.sold c.args.product are c.requires).1
