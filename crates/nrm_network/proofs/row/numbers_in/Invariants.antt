use Rattle.nrm_network.specs.Inner.RowFields.{fields_in}
use Rattle.nrm_network.proofs.RowFields.{ReadTo}
use Rattle.nrm_network.proofs.row.numbers_in.Given as goal

abbrev pub invariant-loop-i : goal.invariant-loop-i
invariant-loop-i l = ReadTo l.from l.least l.greatest (fields_in l.row) l.i l.numbers.items l.within
