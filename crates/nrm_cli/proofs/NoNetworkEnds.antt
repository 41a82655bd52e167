-- How a job ends where its file gives no network.
use Rattle.std.proofs.Common.{ℕ, ◌≡◌, ◌≤◌, List, Option, Result, Some, Ok, Err, inl, inr, refl}
use Rattle.nrm_model.specs.Network.{NetworkValue}
use Rattle.nrm_edge.specs.Fetch.{Folder}
use Rattle.nrm_common_cli.specs.NetworkFile.{CountsFetch, OpensFile}
use Rattle.nrm_common_cli.specs.Outside.{Outside, LeftStream, OnFile}
use Rattle.nrm_common_cli.specs.Refusals.{Refusal, network_under, no_file, at_row, refusal_line, file_fault_line}
use Rattle.nrm_common_cli.specs.declared.network_file.NoNetwork.{NoNetwork}
use Rattle.nrm_common_cli.specs.declared.network_file.NoNetwork.TheVariants as none
use Rattle.nrm_common_cli.specs.Puts.{PutsReason, TellsNoNetwork}
use Rattle.nrm_common_cli.proofs.Opened.{opened-goes}
use Rattle.nrm_cli.specs.Ends.{Ends, Failures}
use Rattle.nrm_cli.specs.Jobs.{Job, NamesFile}
use Rattle.nrm_cli.specs.Inner.Does.{Does}
use Rattle.nrm_cli.specs.Tells.{RefusesNetwork, refused, file_fault}
use Rattle.nrm_cli.specs.declared.status.Status.{Status}
use Rattle.nrm_cli.specs.declared.status.Status.TheVariants as status
use Rattle.nrm_cli.proofs.ToldEnds.{told-ends}
use Rattle.nrm_cli.specs.declared.status.TheConstants.{STATUSES}

-- nothing was written and the stream was left
ran-out : (job : Job) (before after : Outside) (s : Status)
    → PutsReason STATUSES none.NoMemory before.held after.held before.sink_faults after.sink_faults s → LeftStream before after
    → Ends (Some job) before after s
ran-out job before after s (told, kept, same) left = rw told (kept, left)

-- a job whose network is that of a file is refused as the file is
abbrev pub IsOfFile : Job → List ℕ → Type 0
IsOfFile job file = (files : Option Folder) (refusal : Refusal) → OnFile files file (λ contents. network_under contents ≡ Err refusal) → RefusesNetwork job files refusal

pub without-network : (job : Job) (file : List ℕ) → NamesFile job → IsOfFile job file
    → (before after : Outside) (reason : NoNetwork) (s : Status)
    → OpensFile before.files file (Err reason) → CountsFetch before.file_faults after.file_faults (Err reason)
    → PutsReason STATUSES reason before.held after.held before.sink_faults after.sink_faults s → LeftStream before after → Ends (Some job) before after s
without-network job name names of_file before after none.Absent s file counts puts left =
    told-ends (Some job) before after status.Refused s (refusal_line no_file) (refused no_file (record { job = job; asks = refl; refused = of_file before.files no_file file })) puts left
without-network job name names of_file before after (none.Refused row cause) s file counts puts left =
    told-ends (Some job) before after status.Refused s (refusal_line (at_row row cause)) (refused (at_row row cause) (record { job = job; asks = refl; refused = of_file before.files (at_row row cause) file })) puts left
without-network job name names of_file before after none.Fault s file counts puts left =
    told-ends (Some job) before after status.FileFault s file_fault_line (file_fault job refl names counts.1) puts left
without-network job name names of_file before after none.NoMemory s file counts puts left = ran-out job before after s puts left

-- and which counts stay
pub without-failures : (before after : Outside) (reason : NoNetwork) (s : Status)
    → CountsFetch before.file_faults after.file_faults (Err reason)
    → PutsReason STATUSES reason before.held after.held before.sink_faults after.sink_faults s → after.source_faults ≡ before.source_faults → Failures s before after
without-failures before after none.Absent s counts (inl (is, wrote, same)) source = rw is (record { files = counts; source = source; sink = same })
without-failures before after none.Absent s counts (inr (is, front, rose)) source = rw is (source, inl counts)
without-failures before after (none.Refused row cause) s counts (inl (is, wrote, same)) source = rw is (record { files = counts; source = source; sink = same })
without-failures before after (none.Refused row cause) s counts (inr (is, front, rose)) source = rw is (source, inl counts)
without-failures before after none.Fault s counts (inl (is, wrote, same)) source = rw is (source, same)
without-failures before after none.Fault s counts (inr (is, front, rose)) source = rw is (source, inr (counts.1, front))
without-failures before after none.NoMemory s counts (is, kept, same) source = rw is (record { files = counts; source = source; sink = same })

-- so the job is done where there was no network and it was put why
pub without-opened : (job : Job) (file : List ℕ) → NamesFile job → IsOfFile job file
    → (before after : Outside) (opened : Result NetworkValue NoNetwork) (s : Status)
    → OpensFile before.files file opened → CountsFetch before.file_faults after.file_faults opened → after.files ≡ before.files
    → TellsNoNetwork STATUSES opened before.held after.held before.sink_faults after.sink_faults s → LeftStream before after
    → after.source_faults ≡ before.source_faults → before.sink_faults ≤ after.sink_faults → Does (Some job) before after s
without-opened job file names of_file before after (Ok net) s opens counts stays told left source later = absurd told
without-opened job file names of_file before after (Err reason) s opens counts stays told left source later = record {
  ends = without-network job file names of_file before after reason s opens counts told left;
  failures = without-failures before after reason s counts told source;
  goes = opened-goes before after (Err reason) counts stays source later;
}
