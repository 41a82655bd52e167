-- The fields of a row, however it was read.
use Rattle.csv.specs.Records.{fields_of}
use Rattle.nrm_network.specs.Rows.{Row}
use Rattle.nrm_network.specs.declared.row.RowFields.{RowFields}
use Rattle.nrm_network.specs.declared.row.RowFields.TheVariants as lent

abbrev pub fields_in : RowFields → Row
fields_in (lent.Line line) = line.now
fields_in (lent.Record read) = fields_of read.now
