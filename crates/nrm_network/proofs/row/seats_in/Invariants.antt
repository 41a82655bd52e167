use Rattle.std.proofs.Common.{◌≡◌, ◌+◌, length, take}
use Rattle.nrm_network.specs.Inner.RowFields.{fields_in}
use Rattle.nrm_network.proofs.RowFields.{ReadTo}
use Rattle.nrm_network.proofs.row.seats_in.Given as goal

abbrev pub invariant-loop-i : goal.invariant-loop-i
invariant-loop-i l = (length (fields_in l.row) ≡ 3 + length l.seats) × ReadTo 3 0 999 (fields_in l.row) (l.i + 3) (take l.i l.seats) l.within
