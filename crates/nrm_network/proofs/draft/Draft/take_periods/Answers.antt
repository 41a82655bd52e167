-- The draft grows by the first row.
use Rattle.std.proofs.Common.{refl}
use Rattle.nrm_network.proofs.ChecksAfterShape.{periods-free}
use Rattle.nrm_network.proofs.DraftGrowth.{periods-grow}
use Rattle.nrm_network.proofs.draft.Draft.take_periods.Goals as goal

pub returns : goal.returns
returns c = λ taken row is read.
    let free = periods-free taken row read.shape in (
      free,
      periods-grow c.args.self.now _ taken row c.args.version c.args.histories c.args.periods is read.shape free read.says.0 read.says.1
          read.says.2 refl,
    )
