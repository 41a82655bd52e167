-- The columns so far are the same in both.
use Rattle.std.proofs.Common.{◌≡◌, ◌-◌, length, get_or, pos}
use Rattle.std.specs.List.{range_with_len}
use Rattle.nrm_fraction.specs.Rows.{ratio_columns}
use Rattle.nrm_row.specs.Inner.Crossed.{crossed_below}
use Rattle.nrm_row.proofs.ratios.ratios_below.Given as goal

abbrev pub invariant-loop-i : goal.invariant-loop-i
invariant-loop-i l =
    let p = get_or l.xs l.fn.col (pos 0) in
    let q = get_or l.ys l.fn.col (pos 0) in
    crossed_below p q l.xs l.ys (range_with_len l.i (length l.xs - 1 - l.i)) ≡ crossed_below p q l.xs l.ys (ratio_columns l.fn.from (length l.xs))
