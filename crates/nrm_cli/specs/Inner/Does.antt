-- What the parts of a call say of the job that they do, by the files and the sink that they are given.
use Rattle.std.specs.Prelude.{ℕ, List, Option, Some}
use Rattle.nrm_edge.specs.Fetch.{Folder}
use Rattle.nrm_common_cli.specs.Outside.{Goes, Outside}
use Rattle.nrm_cli.specs.Ends.{Ends, Failures}
use Rattle.nrm_cli.specs.Jobs.{Job}
use Rattle.nrm_cli.specs.declared.status.Status.{Status}

-- files and a sink, by what each tells of itself
pub record FilesAndSink : Type 0 where
  pub files : Option Folder
  pub held : Option (List ℕ)
  pub file_faults : ℕ
  pub sink_faults : ℕ

abbrev pub files_and_sink : {F K : Type 0} → (F → Option Folder) → (F → ℕ) → (K → Option (List ℕ)) → (K → ℕ) → F → K → FilesAndSink
files_and_sink contents file_faults held sink_faults files sink =
    record { files = contents files; held = held sink; file_faults = file_faults files; sink_faults = sink_faults sink }

-- the sink alone, beside any files
abbrev pub sink_beside : {K : Type 0} → (K → Option (List ℕ)) → (K → ℕ) → Option Folder → ℕ → K → FilesAndSink
sink_beside held sink_faults folder faults sink =
    record { files = folder; held = held sink; file_faults = faults; sink_faults = sink_faults sink }

-- and beside them a source that is left as it is
abbrev pub with_source : FilesAndSink → Option (List ℕ) → ℕ → Outside
with_source at coming faults =
    record {
      files = at.files;
      coming = coming;
      held = at.held;
      file_faults = at.file_faults;
      source_faults = faults;
      sink_faults = at.sink_faults;
    }

-- what a status says of the words, which counts stay, and that none falls
pub record Does (asked : Option Job) (before after : Outside) (result : Status) : Type 0 where
  pub ends : Ends asked before after result
  pub failures : Failures result before after
  pub goes : Goes before after

-- so it is of words that ask for a job, beside each source
abbrev pub DoesBeside : Job → FilesAndSink → FilesAndSink → Status → Type 0
DoesBeside job before after result =
    (coming : Option (List ℕ)) (faults : ℕ) → Does (Some job) (with_source before coming faults) (with_source after coming faults) result
