use Rattle.std.proofs.Common.{rules, ◌∙◌, ap, option_map, refl, sym}
use Rattle.nrm_account.proofs.Accounts.{account-replies}
use Rattle.nrm_account.proofs.OwnLines.{accounts-of_lines, nothing-written}
use Rattle.nrm_account.proofs.Parties.{largest-is_sold}
use Rattle.nrm_account.proofs.PlanMakers.{planned-by_that_line}
use Rattle.nrm_why_cli.specs.Ends.{usage}
use Rattle.nrm_why_cli.specs.Inner.Parts.{job_in}
use Rattle.nrm_why_cli.specs.Jobs.{usage_line}
use Rattle.nrm_why_cli.specs.declared.status.WhyStatus.TheVariants as status
use Rattle.nrm_why_cli.proofs.Complete.{completes}
use Rattle.nrm_why_cli.proofs.Counts.{told-counts}
use Rattle.nrm_why_cli.proofs.Ending.{same-job-ends, told-ends}
use Rattle.nrm_why_cli.proofs.top.run_why.Goals as goal

pub returns-in-Some-clause-call : goal.returns-in-Some-clause-call
returns-in-Some-clause-call g c =
    let asked = sym (sym c.asked_in.ensures.job ∙ ap (option_map job_in) c.in-Some.is) in
    let ends = same-job-ends _ _ _ _ c.run_job.result asked c.run_job.ensures.ends in
    record { ends = ends; complete = completes _ _ _ c.run_job.result ends; failures = c.run_job.ensures.failures; goes = c.run_job.ensures.goes }

pub returns-in-None-clause-call : goal.returns-in-None-clause-call
returns-in-None-clause-call g c =
    let none = sym c.asked_in.ensures.job ∙ ap (option_map job_in) c.in-None.is in
    let ends = told-ends _ _ _ refl status.Usage c.put_line.result usage_line (usage none) c.put_line.ensures.puts in
    record {
      ends = ends;
      complete = completes _ _ _ c.put_line.result ends;
      failures = told-counts _ _ status.Usage c.put_line.result usage_line refl refl c.put_line.ensures.puts (λ quiet. quiet);
      goes = record { files = refl; file_faults = search rules; source_faults = search rules; sink_faults = c.put_line.ensures.later };
    }

pub returns-in-Some-clause-replies : goal.returns-in-Some-clause-replies
returns-in-Some-clause-replies g c = account-replies

pub returns-in-Some-clause-largest : goal.returns-in-Some-clause-largest
returns-in-Some-clause-largest g c = largest-is_sold

pub returns-in-None-clause-replies : goal.returns-in-None-clause-replies
returns-in-None-clause-replies g c = account-replies

pub returns-in-None-clause-largest : goal.returns-in-None-clause-largest
returns-in-None-clause-largest g c = largest-is_sold

pub returns-in-Some-clause-accounts : goal.returns-in-Some-clause-accounts
returns-in-Some-clause-accounts g c = accounts-of_lines

pub returns-in-None-clause-accounts : goal.returns-in-None-clause-accounts
returns-in-None-clause-accounts g c = accounts-of_lines

pub returns-in-Some-clause-planned : goal.returns-in-Some-clause-planned
returns-in-Some-clause-planned g c = planned-by_that_line

pub returns-in-None-clause-planned : goal.returns-in-None-clause-planned
returns-in-None-clause-planned g c = planned-by_that_line

pub returns-in-Some-clause-memory : goal.returns-in-Some-clause-memory
returns-in-Some-clause-memory g c = nothing-written

pub returns-in-None-clause-memory : goal.returns-in-None-clause-memory
returns-in-None-clause-memory g c = nothing-written
