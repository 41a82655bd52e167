-- A row is given again, or it stops at it.
use Rattle.std.proofs.Common.{ℕ, [], ◌≡◌, ◌≢◌, ◌+◌, ◌∙◌, sym, subst}
use Rattle.std.proofs.lemmas.Result.{err_from_is_err_and}
use Rattle.nrm_hub.specs.Again.{StopsAt, no_row}
use Rattle.nrm_hub.specs.Inner.Rows.{RowsAgain}
use Rattle.nrm_hub.specs.Register.{RegisterValue}
use Rattle.nrm_hub.specs.declared.again.AgainFault.TheVariants as fault
use Rattle.nrm_hub.proofs.AgainRows.{faulty-row, one-again, other-bytes, other-row, same-bytes}
use Rattle.nrm_hub.proofs.again.row_again.Goals as goal

pub returns-in_default-clause-fails : goal.returns-in_default-clause-fails
returns-in_default-clause-fails c =
    subst (λ (n : ℕ). StopsAt c.args.register.now c.args.whole.now (fault.NoRow (n + 1))) (sym c.rows.ensures.rows)
    (no_row c.args.line.now [] c.requires.line c.in_default.ensures.parsed)

pub returns-in_err-carry_row-clause-fails : goal.returns-in_err-carry_row-clause-fails
returns-in_err-carry_row-clause-fails c =
    let p = err_from_is_err_and c.from_residual.result c.from_residual.ensures.1 in
    rw (p.1, p.2) (faulty-row c.args.register.now c.in-Some.row c.args.line.now c.args.whole.now c.in_err-carry_row.field-0.0 c.requires.line
    c.in-Some.ensures.parsed c.in_err-carry_row.ensures.cause)

pub returns-then-ne-clause-fails : goal.returns-then-ne-clause-fails
returns-then-ne-clause-fails c =
    let mid : RegisterValue = c.carry_row.new.register in
    let apart : mid.text ≢ c.args.whole.now = λ same. other-bytes c.text.result.now c.args.whole.now c.if-ne.ensures (c.text.ensures ∙ same) in
    subst (λ (n : ℕ). StopsAt c.args.register.now c.args.whole.now (fault.Differs n)) (sym c.rows-then-ne.ensures.rows)
    (other-row c.args.register.now mid c.in-Some.row c.args.line.now c.args.whole.now c.requires.given c.requires.line c.in-Some.ensures.parsed
    c.in_ok-carry_row.ensures.carries apart)

pub returns-clause-again : goal.returns-clause-again
returns-clause-again c =
    let mid : RegisterValue = c.carry_row.new.register in
    let same : mid.text ≡ c.args.whole.now = sym c.text.ensures ∙ same-bytes c.text.result.now c.args.whole.now c.if-ne.ensures in
    subst (λ (new : RegisterValue). RowsAgain c.args.register.now new c.args.whole.now) (sym c.clear_text.ensures)
    (one-again c.args.register.now mid c.in-Some.row c.args.whole.now c.requires.given c.in-Some.ensures.within.changes c.in_ok-carry_row.ensures.carries same)
