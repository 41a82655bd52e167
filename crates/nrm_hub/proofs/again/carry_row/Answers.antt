-- A row that is read is the next one, or it is said why it isn't.
use Rattle.std.proofs.Common.{ℕ, ◌≡◌, ◌+◌, ◌<◌, ◌≤◌, ◌∙◌, sym, ap, arith}
use Rattle.nrm_hub.specs.Again.{many_desks, many_rows, other_number, used}
use Rattle.nrm_hub.specs.Register.{desk_at}
use Rattle.nrm_hub.proofs.AgainRows.{carried-so}
use Rattle.nrm_hub.proofs.again.carry_row.Goals as goal
use Rattle.nrm_hub.proofs.again.carry_row.Goals.{then-row-number-via-then-row-number, then-row-number-via-else-row-number+then-number-gt-MOST_ROWS}

pub returns-then-row-number-clause-cause : goal.returns-then-row-number-clause-cause
returns-then-row-number-clause-cause c =
    let number : c.rows-number.result + 1 ≡ c.args.register.now.rows + 1 = ap (λ (n : ℕ). n + 1) c.rows-number.ensures.rows in
    elim c.then-row-number.branch [
      | then-row-number-via-then-row-number w ↦ (number, other_number (λ same. w.if-row-number.true (same ∙ sym number)))
      | then-row-number-via-else-row-number+then-number-gt-MOST_ROWS w ↦ (number, many_rows (omega arith))
    ]

pub returns-in-Err-TooMany-clause-cause : goal.returns-in-Err-TooMany-clause-cause
returns-in-Err-TooMany-clause-cause c =
    let cause = rw c.in-Err-TooMany.field-0-is at c.in-Err-TooMany.ensures.cause in
    (ap (λ (n : ℕ). n + 1) c.rows-number.ensures.rows, many_desks cause.0 cause.1)

pub returns-then-row-next_of-clause-cause : goal.returns-then-row-next_of-clause-cause
returns-then-row-next_of-clause-cause c =
    let late : c.args.row.sequence < (desk_at c.join.new.self c.in-Ok.desk).next = omega (arith, c.next_of.ensures.next, c.if-row-next_of.true) in
    (ap (λ (n : ℕ). n + 1) c.rows-number.ensures.rows, used c.join.new.self c.in-Ok.desk c.in-Ok.ensures.joins late)

pub returns-in_default-reply : goal.returns-in_default-reply
returns-in_default-reply c =
    let new : (desk_at c.join.new.self c.in-Ok.desk).next ≤ c.args.row.sequence = omega (arith, c.next_of.ensures.next, c.if-row-next_of.false) in
    record {
      carries = carried-so c.args.register.now c.join.new.self c.carry.new.self c.args.row c.in-Ok.desk c.in-Ok-carry.reply c.in-Ok.ensures.joins new
          c.in-Ok-carry.ensures.carries c.in_default-reply.not-Memory;
      cause = tt;
    }
