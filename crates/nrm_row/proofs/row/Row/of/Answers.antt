-- The numbers of the entries are a row over 1, bounded as the entries are.
use Rattle.nrm_row.proofs.Filled.{row_of_numbers, row_of_is, filled_bounded}
use Rattle.nrm_row.proofs.row.Row.of.Goals as goal

pub greatest_listed-requires : goal.greatest_listed-requires
greatest_listed-requires c = c.requires.entries.small

pub invariant_of-result : goal.invariant_of-result
invariant_of-result c = record {
  row = row_of_numbers c.args.width c.args.entries.now c.in_ok-nums.nums.items c.requires.width c.requires.entries c.in_ok-nums.ensures;
  bounded = filled_bounded c.args.width c.args.entries.now c.in_ok-nums.nums.items c.greatest_listed.result c.in_ok-nums.ensures c.greatest_listed.ensures.bound;
  room = c.greatest_listed.ensures.small;
}

pub returns : goal.returns
returns c = row_of_is c.args.width c.args.entries.now c.in_ok-nums.nums.items c.in_ok-nums.ensures
