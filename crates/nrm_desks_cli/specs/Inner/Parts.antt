-- What the parts of the top call promise one another.
use Rattle.nrm_desks_cli.specs.Jobs.{DesksJob}
use Rattle.nrm_desks_cli.specs.declared.top.Asked.{Asked}

-- a job as the code holds it
abbrev pub job_in : Asked → DesksJob
job_in asked = record { mode = asked.mode; file = asked.file.now }
