-- A row has four tabs at least.
use Rattle.std.proofs.Common.{Option, sym, subst}
use Rattle.nrm_hub.specs.Again.{RowRead}
use Rattle.nrm_hub.specs.Inner.Rows.{IsParsed}
use Rattle.nrm_hub.proofs.AgainRows.{of-five}
use Rattle.nrm_hub.proofs.again.read_row.Goals as goal

pub returns-clause-parsed : goal.returns-clause-parsed
returns-clause-parsed c =
    subst (λ (o : Option RowRead). IsParsed o c.row_with.result)
    (sym (of-five c.args.line.now c.in_ok-number.number.now c.in_ok-number.rest.now c.in_ok-number.ensures.0
    c.in_ok-name.name.now c.in_ok-name.rest.now c.in_ok-name.ensures.0
    c.in_ok-sequence.sequence.now c.in_ok-sequence.rest.now c.in_ok-sequence.ensures.0
    c.in_ok-command.command.now c.in_ok-command.field-0-1.now c.in_ok-command.ensures.0))
    c.row_with.ensures.parsed
