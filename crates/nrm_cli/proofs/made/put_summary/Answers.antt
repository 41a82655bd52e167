use Rattle.std.proofs.Common.{◌≡◌, ◌∙◌, ap, inr}
use Rattle.nrm_book.specs.Book.{BookValue}
use Rattle.nrm_book.specs.Bookings.{revenue_of}
use Rattle.nrm_model.specs.Inventory.{inventory_of}
use Rattle.nrm_text.specs.Words.{text_line}
use Rattle.nrm_findings.specs.Summary.{hindsight_word, summary_words}
use Rattle.nrm_cli.proofs.MadeRuns.{made-run}
use Rattle.nrm_cli.proofs.made.put_summary.Goals as goal

pub returns-in-Some-clause-puts : goal.returns-in-Some-clause-puts
returns-in-Some-clause-puts g c net number begun all =
    let new = c.answer_all.new.controller in
    let counts = c.in-Some.counts in
    let last = c.in-Some.last in
    let revenue : c.revenue-revenue.result ≡ revenue_of (inventory_of new.net) new.bookings = c.revenue-revenue.ensures ∙ ap (λ (book : BookValue). revenue_of book.inventory book.bookings) c.book.ensures.book in
    let line = c.bytes.ensures ∙ c.line_of_summary.ensures ∙ (λ n. text_line (summary_words counts (revenue n) (hindsight_word (c.hindsight_of.ensures.value new n)))) in
    inr (c.bytes.result.now, made-run c.args.controller.now new net number c.args.maker.now counts last c.bytes.result.now begun all c.in-Some.ensures line, c.put_line.ensures.puts)
