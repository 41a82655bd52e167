-- A fetch from files in memory leaves what stands under each name.
use Rattle.std.proofs.Common.{◌≡◌, ap}
use Rattle.nrm_edge.specs.Fetch.{Folder}
use Rattle.nrm_edge.specs.Memory.{stored_under}
use Rattle.nrm_base_tests.proofs.edge.fetch_from_memory.Goals as goal

pub returns-clause-stays : goal.returns-clause-stays
returns-clause-stays c =
    let stays = c.fetch_from.ensures.stays in
    let same : stored_under c.fetch_from.new.files.files ≡ stored_under c.args.files.now.files = cc stays in
    ap (λ (files : Folder). files c.args.name.now) same
