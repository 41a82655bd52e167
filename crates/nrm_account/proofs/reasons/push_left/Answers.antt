use Rattle.std.proofs.Common.{List, ℕ, ◌∙◌, ◌++◌, flat_map, sym, ap, append_assoc}
use Rattle.std.specs.List.{range_with_len}
use Rattle.nrm_account.specs.Texts.{left_line}
use Rattle.nrm_report.proofs.NumberedLines.{one-more}
use Rattle.nrm_account.proofs.reasons.push_left.Goals as goal

pub loop-leg-preserved : goal.loop-leg-preserved
loop-leg-preserved c =
    let line : ℕ → List ℕ = left_line c.args.net.now c.args.book.now.bookings in
    let so_far : List ℕ = flat_map line (range_with_len 0 c.loop-leg.leg) in
    let start : List ℕ = c.args.text.now.items in
    c.in_ok-push_line.ensures ∙ (λ n. c.loop-leg.invariant n ++ c.left_line_of.ensures n)
    ∙ append_assoc start so_far (line c.loop-leg.leg) ∙ ap (λ (more : List ℕ). start ++ more) (sym (one-more line c.loop-leg.leg))
