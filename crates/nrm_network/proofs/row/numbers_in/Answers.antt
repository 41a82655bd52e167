-- The numbers that were read so far are those of the fields so far.
use Rattle.std.proofs.Common.{ℕ, ◌≡◌, ◌<◌, List, length, arith, rules, Err}
use Rattle.nrm_network.specs.Inner.RowFields.{fields_in}
use Rattle.nrm_network.specs.declared.fault.RowRefusal.TheVariants as fault
use Rattle.nrm_network.proofs.RowFields.{read-within, read-outside, read-off}
use Rattle.nrm_network.proofs.row.numbers_in.Goals as goal
use Rattle.nrm_network.proofs.row.numbers_in.Goals.{in-Some+in_ok-push-in-Some, in-None}

pub returns-in_err-number : goal.returns-in_err-number
returns-in_err-number c =
    let short : c.loop-i.i < length (fields_in c.args.row.now) = omega (arith, c.len-i-end.ensures) in
    let gives : c.from_residual-in_err-number.result ≡ Err (fault.Refused c.in_err-number.field-0.0) = search rules in
    let off = c.in_err-number.ensures in
    rw gives (
      read-off c.args.from c.args.least c.args.greatest
          (fields_in c.args.row.now) c.loop-i.i short c.field.result.now c.loop-i.numbers.items c.loop-i.within c.field.ensures off.0
          c.loop-i.invariant,
      off.1,
    )

pub loop-i-preserved : goal.loop-i-preserved
loop-i-preserved c =
    let fields : List (List ℕ) = fields_in c.args.row.now in
    let short : c.loop-i.i < length fields = omega (arith, c.len-i-end.ensures) in
    elim c.match-branch-3.branch [
      | in-Some+in_ok-push-in-Some w ↦
          rw (w.numbers-is, w.within-is, w.in_ok-push-in-Some.ensures.items)
          (read-within c.args.from c.args.least c.args.greatest fields c.loop-i.i short c.field.result.now w.in-Some.number c.loop-i.numbers.items
          c.loop-i.within c.field.ensures (rw w.in-Some.is at c.in_ok-number.ensures) c.loop-i.invariant)
      | in-None w ↦
          rw (w.numbers-is, w.within-is)
          (read-outside c.args.from c.args.least c.args.greatest fields c.loop-i.i short c.field.result.now c.loop-i.numbers.items c.loop-i.within
          c.field.ensures (rw w.in-None.is at c.in_ok-number.ensures) c.loop-i.invariant)
    ]
