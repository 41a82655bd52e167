-- Each first part of a run over a store is a run.
use Rattle.nrm_kept_cli.proofs.KeptLaws.{parts-kept}
use Rattle.nrm_kept_cli.proofs.laws.kept_runs_have_first_parts.Goals as goal

pub returns : goal.returns
returns c = parts-kept
