-- No count falls where a network file was opened.
use Rattle.std.proofs.Common.{ℕ, ◌≡◌, ◌≤◌, Result, Ok, Err, arith}
use Rattle.nrm_model.specs.Network.{NetworkValue}
use Rattle.nrm_common_cli.specs.NetworkFile.{CountsFetch}
use Rattle.nrm_common_cli.specs.Outside.{Goes, Outside}
use Rattle.nrm_common_cli.specs.declared.network_file.NoNetwork.{NoNetwork}
use Rattle.nrm_common_cli.specs.declared.network_file.NoNetwork.TheVariants as none

opened-later : (before now : ℕ) (opened : Result NetworkValue NoNetwork) → CountsFetch before now opened → before ≤ now
opened-later before now (Ok net) same = omega (arith, same)
opened-later before now (Err none.Absent) same = omega (arith, same)
opened-later before now (Err (none.Refused row cause)) same = omega (arith, same)
opened-later before now (Err none.Fault) rose = rose.0
opened-later before now (Err none.NoMemory) same = omega (arith, same)

pub opened-goes : (before after : Outside) (opened : Result NetworkValue NoNetwork)
    → CountsFetch before.file_faults after.file_faults opened → after.files ≡ before.files
    → after.source_faults ≡ before.source_faults → before.sink_faults ≤ after.sink_faults → Goes before after
opened-goes before after opened counts stays source later =
    record { files = stays; file_faults = opened-later before.file_faults after.file_faults opened counts; source_faults = omega (arith, source); sink_faults = later }
