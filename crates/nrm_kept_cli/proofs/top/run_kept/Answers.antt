use Rattle.std.proofs.Common.{rules, ◌∙◌, ap, option_map, refl, sym}
use Rattle.nrm_kept_cli.specs.Ends.{usage}
use Rattle.nrm_kept_cli.specs.Jobs.{usage_line}
use Rattle.nrm_kept_cli.specs.Inner.Parts.{job_in}
use Rattle.nrm_kept_cli.specs.Inner.Reading.{on_trust, outright}
use Rattle.nrm_kept_cli.specs.declared.status.KeptStatus.TheVariants as status
use Rattle.nrm_common_cli.proofs.Networks.{taken-network}
use Rattle.nrm_kept_cli.proofs.Again.{load-again}
use Rattle.nrm_kept_cli.proofs.Complete.{completes}
use Rattle.nrm_kept_cli.proofs.Counts.{told-counts}
use Rattle.nrm_kept_cli.proofs.Ending.{same-job-ends, told-ends, unasked}
use Rattle.nrm_kept_cli.proofs.KeptLaws.{faults-leave-nothing, hindsight-bounds, money-adds-up, parts-kept, plans-optimal, seats-kept}
use Rattle.nrm_kept_cli.proofs.top.run_kept.Goals as goal

pub returns-in-Some-clause-call : goal.returns-in-Some-clause-call
returns-in-Some-clause-call g c =
    let asked = sym (sym c.asked_in.ensures ∙ ap (option_map job_in) c.in-Some.is) in
    let ends = same-job-ends _ _ _ _ c.run_job.result asked (c.run_job.ensures.ends outright tt).1 in
    record { ends = ends; complete = completes _ _ _ c.run_job.result ends; failures = c.run_job.ensures.failures; goes = c.run_job.ensures.goes }

pub returns-in-Some-clause-on_trust : goal.returns-in-Some-clause-on_trust
returns-in-Some-clause-on_trust g c = λ trusted.
    let asked = sym (sym c.asked_in.ensures ∙ ap (option_map job_in) c.in-Some.is) in
    let read = c.run_job.ensures.ends on_trust trusted in
    let ends = same-job-ends _ _ _ _ c.run_job.result asked read.1 in
    (read.0, record { ends = ends; complete = completes _ _ _ c.run_job.result ends; failures = c.run_job.ensures.failures; goes = c.run_job.ensures.goes })

pub returns-in-None-clause-call : goal.returns-in-None-clause-call
returns-in-None-clause-call g c =
    let none = sym c.asked_in.ensures ∙ ap (option_map job_in) c.in-None.is in
    let ends = told-ends _ _ _ status.Usage c.put_line.result usage_line (unasked _ _ usage_line refl refl refl) (usage none) c.put_line.ensures.puts in
    record {
      ends = ends;
      complete = completes _ _ _ c.put_line.result ends;
      failures = told-counts _ _ status.Usage c.put_line.result usage_line refl refl c.put_line.ensures.puts (λ quiet. quiet);
      goes = record { files = refl; file_faults = search rules; source_faults = search rules; sink_faults = c.put_line.ensures.later };
    }

pub returns-in-None-clause-on_trust : goal.returns-in-None-clause-on_trust
returns-in-None-clause-on_trust g c = λ trusted.
    let none = sym c.asked_in.ensures ∙ ap (option_map job_in) c.in-None.is in
    let ends = told-ends _ _ _ status.Usage c.put_line.result usage_line (unasked _ _ usage_line refl refl refl) (usage none) c.put_line.ensures.puts in (
      trusted,
      record {
        ends = ends;
        complete = completes _ _ _ c.put_line.result ends;
        failures = told-counts _ _ status.Usage c.put_line.result usage_line refl refl c.put_line.ensures.puts (λ quiet. quiet);
        goes = record { files = refl; file_faults = search rules; source_faults = search rules; sink_faults = c.put_line.ensures.later };
      },
    )

pub returns-in-Some-clause-faults : goal.returns-in-Some-clause-faults
returns-in-Some-clause-faults g c = faults-leave-nothing

pub returns-in-Some-clause-seats : goal.returns-in-Some-clause-seats
returns-in-Some-clause-seats g c = seats-kept

pub returns-in-Some-clause-hindsight : goal.returns-in-Some-clause-hindsight
returns-in-Some-clause-hindsight g c = hindsight-bounds

pub returns-in-Some-clause-again : goal.returns-in-Some-clause-again
returns-in-Some-clause-again g c = load-again

pub returns-in-None-clause-faults : goal.returns-in-None-clause-faults
returns-in-None-clause-faults g c = faults-leave-nothing

pub returns-in-None-clause-seats : goal.returns-in-None-clause-seats
returns-in-None-clause-seats g c = seats-kept

pub returns-in-None-clause-hindsight : goal.returns-in-None-clause-hindsight
returns-in-None-clause-hindsight g c = hindsight-bounds

pub returns-in-None-clause-again : goal.returns-in-None-clause-again
returns-in-None-clause-again g c = load-again

pub returns-in-Some-clause-money : goal.returns-in-Some-clause-money
returns-in-Some-clause-money g c = money-adds-up

pub returns-in-Some-clause-printed : goal.returns-in-Some-clause-printed
returns-in-Some-clause-printed g c = plans-optimal

pub returns-in-None-clause-money : goal.returns-in-None-clause-money
returns-in-None-clause-money g c = money-adds-up

pub returns-in-None-clause-printed : goal.returns-in-None-clause-printed
returns-in-None-clause-printed g c = plans-optimal

pub returns-in-Some-clause-parts : goal.returns-in-Some-clause-parts
returns-in-Some-clause-parts g c = parts-kept

pub returns-in-Some-clause-networks : goal.returns-in-Some-clause-networks
returns-in-Some-clause-networks g c = taken-network

pub returns-in-None-clause-parts : goal.returns-in-None-clause-parts
returns-in-None-clause-parts g c = parts-kept

pub returns-in-None-clause-networks : goal.returns-in-None-clause-networks
returns-in-None-clause-networks g c = taken-network
