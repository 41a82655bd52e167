use Rattle.nrm_virtual.proofs.Tables.{pair-in_table}
use Rattle.nrm_emsr.proofs.nest.nested_at.Goals as goal

pub bucket_of-requires : goal.bucket_of-requires
bucket_of-requires c = pair-in_table c.args.net.now c.args.cert.now c.args.table.now c.args.leg c.args.product c.requires.table c.requires.leg c.requires.product c.requires.uses
