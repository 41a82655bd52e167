use Rattle.nrm_kept_cli.proofs.KeptLaws.{faults-leave-nothing}
use Rattle.nrm_kept_cli.proofs.laws.faults_leave_nothing.Goals as goal

pub returns : goal.returns
returns c = faults-leave-nothing
