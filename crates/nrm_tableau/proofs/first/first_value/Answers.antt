-- The entries of the fares make the value row.
use Rattle.std.proofs.Common.{◌+◌, arith}
use Rattle.nrm_lp.specs.Tableau.{first_value, right_side}
use Rattle.nrm_tableau.proofs.FirstEntries.{value_list, width_within, made_row}
use Rattle.nrm_tableau.proofs.first.first_value.Goals as goal

pub of-requires : goal.of-requires
of-requires c =
    let a = c.args.program.now in
    record { width = width_within a c.right_side.ensures.limits c.right_side.result c.right_side.ensures.column; entries = (value_list a c.right_side.result c.in_ok-entries.entries.items c.deref.result.now c.right_side.ensures.column c.deref.ensures.value c.in_ok-entries.ensures).columns }

pub returns : goal.returns
returns c =
    let a = c.args.program.now in
    made_row c.of.result (c.right_side.result + 1) (right_side a) (first_value a) c.deref.result.now (omega (arith, c.right_side.ensures.column))
    (value_list a c.right_side.result c.in_ok-entries.entries.items c.deref.result.now c.right_side.ensures.column c.deref.ensures.value c.in_ok-entries.ensures) c.of.ensures
