use Rattle.std.proofs.Common.{◌≡◌, ◌++◌, drop}
use Rattle.std.specs.List.{list_all}
use Rattle.nrm_network.specs.Inner.RowFields.{fields_in}
use Rattle.nrm_text.specs.Names.{is_name}
use Rattle.nrm_network.specs.Rows.{further}
use Rattle.nrm_network.proofs.row.names_in.Given as goal

abbrev pub invariant-loop-i : goal.invariant-loop-i
invariant-loop-i l = record {
  names : list_all is_name (further (fields_in l.row)) ≡ list_all is_name (drop l.i (fields_in l.row));
  read : l.names.items ++ drop l.i (fields_in l.row) ≡ further (fields_in l.row);
}
