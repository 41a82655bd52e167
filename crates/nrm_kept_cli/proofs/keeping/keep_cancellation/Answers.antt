use Rattle.std.proofs.Common.{◌∙◌, ap, sym}
use Rattle.nrm_book.specs.Book.{BookValue}
use Rattle.nrm_book.specs.Bookings.{booking_numbered}
use Rattle.nrm_kept_cli.proofs.Ahead.{live-kept}
use Rattle.nrm_kept_cli.proofs.keeping.keep_cancellation.Goals as goal

pub returns-in-Some-clause-kept : goal.returns-in-Some-clause-kept
returns-in-Some-clause-kept g c =
    let found = ap (λ (book : BookValue). booking_numbered book.bookings c.args.number) (sym c.book.ensures.book) ∙ sym c.find.ensures ∙ c.in-Some.is in
    live-kept g.P.Keeper c.args.controller.now c.args.keeper.now c.drop_row.new.self c.drop_row.result c.args.number _ found c.drop_row.ensures.dropped c.drop_row.ensures.shows
