-- A number has three digits at most, and a comma is put before them.
use Rattle.std.proofs.Common.{◌∙◌, ◌≤◌, ◌++◌, length, drop, ap, arith}
use Rattle.std.specs.Prelude.{decimal}
use Rattle.nrm_network.proofs.BackwardNumbers.{comma-before, three-digits}
use Rattle.nrm_network.proofs.numbers.write_number.Goals as goal
use Rattle.nrm_network.proofs.numbers.write_number.Goals.{After-from}

few : (c : After-from) → length (decimal c.from.result) ≤ 3
few c = three-digits c.from.result (omega arith)

pub write_digits-start-requires : goal.write_digits-start-requires
write_digits-start-requires c = let short = few (goal.at.write_digits-start-requires c).After-from in (omega arith, omega arith)

pub overflow_sub-start : goal.overflow_sub-start
overflow_sub-start c = let short = few (goal.at.overflow_sub-start c).After-from in omega arith

pub returns-clause-few : goal.returns-clause-few
returns-clause-few c = let short = few (goal.at.returns-clause-few c).After-from in omega arith

pub returns-clause-written : goal.returns-clause-written
returns-clause-written c =
    let short = few (goal.at.returns-clause-written c).After-from in
    comma-before c.write_digits-start.new.buf (decimal c.args.number ++ drop c.args.end c.args.row.now) c.write_digits-start.result
    (omega arith) (omega arith)
    (c.write_digits-start.ensures.written ∙ ap (λ n. decimal n ++ drop c.args.end c.args.row.now) c.from.ensures)
