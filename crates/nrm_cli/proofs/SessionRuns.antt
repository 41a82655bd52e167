-- A session from the opening: what it wrote is the output of a run.
use Rattle.std.proofs.Common.{◌⊎◌, inl, inr, ℕ, List, ap, subst}
use Rattle.nrm_model.specs.Network.{NetworkValue}
use Rattle.nrm_control.specs.State.{opening}
use Rattle.nrm_control.specs.Standing.{ControlValue}
use Rattle.nrm_stream.specs.declared.command.Command.{Command}
use Rattle.nrm_session.specs.Run.{Writes}
use Rattle.nrm_session.specs.Serving.{Refines, RefinesCut, WritesCut}
use Rattle.nrm_session.proofs.ServedBy.{opened}
use Rattle.nrm_cli.specs.Ends.{RunStops, RunWrites, RunWritesCut}
use Rattle.nrm_cli.specs.Inner.Parts.{HasBegun}

module _ (start new : ControlValue) (net : NetworkValue) (commands : List Command) (output : List ℕ) (begun : HasBegun net start) where
  pub run-writes : Refines start new commands output → RunWrites net start.plan commands output
  run-writes refines =
      let (last, stands, writes) = refines.run (opening start.plan) (opened start net begun) in
      (last, subst (λ (n : NetworkValue). Writes n (opening start.plan) commands output last) (ap (λ (c : ControlValue). c.net) begun) writes)

  pub run-writes-cut : RefinesCut start new commands output → RunWritesCut net start.plan commands output
  run-writes-cut refines =
      let (last, stands, writes) = refines.run (opening start.plan) (opened start net begun) in
      (last, subst (λ (n : NetworkValue). WritesCut n (opening start.plan) commands output last) (ap (λ (c : ControlValue). c.net) begun) writes)

  pub run-stops : RefinesCut start new commands output ⊎ Refines start new commands output → RunStops net start.plan commands output
  run-stops (inl cut) = inl (run-writes-cut cut)
  run-stops (inr whole) = inr (run-writes whole)
