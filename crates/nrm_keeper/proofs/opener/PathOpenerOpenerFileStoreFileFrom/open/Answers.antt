use Rattle.sqlite.specs.Files.{over_files}
use Rattle.sqlite.specs.WalFiles.{image_at}
use Rattle.nrm_keeper.proofs.FirstRows.{first_told}
use Rattle.nrm_keeper.proofs.opener.PathOpenerOpenerFileStoreFileFrom.open.Goals as goal

pub returns-in-Ok-take-clause-first : goal.returns-in-Ok-take-clause-first
returns-in-Ok-take-clause-first g c =
    first_told _ over_files (image_at g.S.Start) g.S.Beginning.rows c.in-Ok.connection c.set_step_limit.new.self _ g.met.S.Beginning.begins c.set_step_limit.ensures c.in-Ok.ensures.opened c.in-Ok.ensures.found
