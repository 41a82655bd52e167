-- The end of the line stands last, the demand before it, and the number of the history before that.
use Rattle.std.proofs.Common.{◌∙◌, ◌+◌, ◌++◌, ◌∷◌, drop, map, ap, arith}
use Rattle.std.specs.Prelude.{decimal}
use Rattle.nrm_model.specs.Demand.{demand_row}
use Rattle.nrm_network.specs.Inner.RowText.{after_commas}
use Rattle.nrm_network.proofs.BackwardNumbers.{end-of-line}
use Rattle.nrm_network.proofs.numbers.write_numbers.Goals as goal

pub returns-clause-written : goal.returns-clause-written
returns-clause-written c =
    c.write_number.ensures.written ∙ ap
    (λ n. 44 ∷ (decimal (n + 1) ++ drop c.write_seats-start.result c.write_seats-start.new.row)) c.from.ensures
    ∙ ap (λ xs. 44 ∷ (decimal (c.args.h + 1) ++ xs)) c.write_seats-start.ensures.written
    ∙ ap (λ xs. 44 ∷ (decimal (c.args.h + 1) ++ (after_commas (map decimal (demand_row c.args.net.now c.args.j c.args.h)) ++ xs)))
    (end-of-line c.args.row.now 68 (omega arith))
