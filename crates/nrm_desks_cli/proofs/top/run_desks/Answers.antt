use Rattle.std.proofs.Common.{◌∙◌, ap, option_map, refl, sym}
use Rattle.nrm_account.proofs.Parties.{largest-is_sold}
use Rattle.nrm_frames.proofs.Fronts.{pieces}
use Rattle.nrm_hub.proofs.ClientsServed.{desks-served}
use Rattle.nrm_hub.proofs.RegisterRights.{rights-hold}
use Rattle.nrm_hub.proofs.RegisterStates.{rows-give}
use Rattle.nrm_session.proofs.Hindsights.{openings-bounded}
use Rattle.nrm_session.proofs.Seats.{kept}
use Rattle.nrm_desks_cli.specs.Ends.{usage}
use Rattle.nrm_desks_cli.specs.Inner.Parts.{job_in}
use Rattle.nrm_desks_cli.specs.Jobs.{usage_line}
use Rattle.nrm_desks_cli.specs.declared.status.DesksStatus.TheVariants as status
use Rattle.nrm_desks_cli.proofs.Ending.{same-job-ends, told-ends}
use Rattle.nrm_desks_cli.proofs.top.run_desks.Goals as goal

pub returns-in-Some-clause-call : goal.returns-in-Some-clause-call
returns-in-Some-clause-call g c =
    let asked = sym (sym c.asked_in.ensures ∙ ap (option_map job_in) c.in-Some.is) in
    same-job-ends _ _ _ _ c.run_job.result asked c.run_job.ensures.ends

pub returns-in-None-clause-call : goal.returns-in-None-clause-call
returns-in-None-clause-call g c =
    let none = sym c.asked_in.ensures ∙ ap (option_map job_in) c.in-None.is in
    told-ends _ _ _ refl status.Usage c.put_line.result usage_line (usage none) c.put_line.ensures.puts

pub returns-in-Some-clause-served : goal.returns-in-Some-clause-served
returns-in-Some-clause-served g c = desks-served

pub returns-in-Some-clause-rights : goal.returns-in-Some-clause-rights
returns-in-Some-clause-rights g c = rights-hold

pub returns-in-Some-clause-rows : goal.returns-in-Some-clause-rows
returns-in-Some-clause-rows g c = rows-give

pub returns-in-Some-clause-frames : goal.returns-in-Some-clause-frames
returns-in-Some-clause-frames g c = pieces

pub returns-in-Some-clause-asks : goal.returns-in-Some-clause-asks
returns-in-Some-clause-asks g c = largest-is_sold

pub returns-in-Some-clause-seats : goal.returns-in-Some-clause-seats
returns-in-Some-clause-seats g c = kept

pub returns-in-Some-clause-hindsight : goal.returns-in-Some-clause-hindsight
returns-in-Some-clause-hindsight g c = openings-bounded

pub returns-in-None-clause-served : goal.returns-in-None-clause-served
returns-in-None-clause-served g c = desks-served

pub returns-in-None-clause-rights : goal.returns-in-None-clause-rights
returns-in-None-clause-rights g c = rights-hold

pub returns-in-None-clause-rows : goal.returns-in-None-clause-rows
returns-in-None-clause-rows g c = rows-give

pub returns-in-None-clause-frames : goal.returns-in-None-clause-frames
returns-in-None-clause-frames g c = pieces

pub returns-in-None-clause-asks : goal.returns-in-None-clause-asks
returns-in-None-clause-asks g c = largest-is_sold

pub returns-in-None-clause-seats : goal.returns-in-None-clause-seats
returns-in-None-clause-seats g c = kept

pub returns-in-None-clause-hindsight : goal.returns-in-None-clause-hindsight
returns-in-None-clause-hindsight g c = openings-bounded
