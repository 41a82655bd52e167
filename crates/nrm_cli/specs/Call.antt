-- What one call of `run` says of what stands outside it.
use Rattle.std.specs.Prelude.{Option}
use Rattle.nrm_common_cli.specs.Outside.{Goes, Outside}
use Rattle.nrm_cli.specs.Ends.{Completes, Ends, Failures}
use Rattle.nrm_cli.specs.Jobs.{Job}
use Rattle.nrm_cli.specs.Own.{PlannedPasses}
use Rattle.nrm_cli.specs.declared.status.Status.{Status}

-- `ends`: for each status what the words, the files, the stream and the written bytes were. `complete`: good words, a
-- valid file, nothing that hinders and, for a run, a short stream give the whole output, or memory ran out and nothing
-- was written. `failures`: a count of faults rises, by one, only with the status of its fault. `goes`: no count falls,
-- and the files stay. `passes`: what a call with `plan bid FILE` wrote is found optimal by `check FILE CERT`.
pub record Call (asked : Option Job) (before after : Outside) (result : Status) : Type 0 where
  pub ends : Ends asked before after result
  pub complete : Completes asked before after result
  pub failures : Failures result before after
  pub goes : Goes before after
  pub passes : PlannedPasses asked before after result
