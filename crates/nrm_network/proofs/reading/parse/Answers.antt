-- The text after a byte order mark is as short, and has no quote either.
use Rattle.std.proofs.Common.{arith}
use Rattle.nrm_network.proofs.CsvRows.{strip-shortens}
use Rattle.nrm_network.proofs.Marks.{strip-plain}
use Rattle.nrm_network.proofs.reading.parse.Goals as goal

pub read_lines-requires-clause-small : goal.read_lines-requires-clause-small
read_lines-requires-clause-small c =
    let few = strip-shortens c.args.bytes.now in
    rw c.without_mark.ensures (omega (arith, few))

pub read_lines-requires-clause-plain : goal.read_lines-requires-clause-plain
read_lines-requires-clause-plain c = rw c.without_mark.ensures (strip-plain c.args.bytes.now (c.is_plain.ensures c.if-is_plain.true))
