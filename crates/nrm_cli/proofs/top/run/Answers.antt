use Rattle.nrm_cluster.proofs.Nearest.{no-grouping-costs-less}
use Rattle.nrm_legdp.proofs.Values.{no-policy-earns-more, protections-earn-all}
use Rattle.nrm_session.proofs.Determined.{determined, states-determined}
use Rattle.nrm_session.proofs.FirstParts.{first-parts}
use Rattle.nrm_session.proofs.Hindsights.{openings-bounded}
use Rattle.nrm_session.proofs.InForce.{plans-stay_optimal}
use Rattle.nrm_session.proofs.Money.{adds-up}
use Rattle.nrm_session.proofs.OtherLines.{other-lines}
use Rattle.nrm_session.proofs.PhysicalSeats.{decide-nothing}
use Rattle.nrm_session.proofs.PrintedPlans.{printed-optimal}
use Rattle.nrm_session.proofs.Runs.{runs}
use Rattle.nrm_session.proofs.Seats.{kept}
use Rattle.nrm_session.proofs.Verdicts.{requests-answered}
use Rattle.nrm_findings.proofs.LegMeans.{values-are-means}
use Rattle.nrm_cli.proofs.OneLegText.{leg-texts-determined}
use Rattle.nrm_cli.proofs.OwnPasses.{optimal-pass, own-passes}
use Rattle.nrm_cli.proofs.CompleteJobs.{completes, same-job-ends}
use Rattle.nrm_common_cli.proofs.Networks.{taken-network}
use Rattle.nrm_cli.proofs.PlannedPasses.{planned-passes}
use Rattle.nrm_cli.proofs.top.run.Goals as goal

pub returns-clause-seats : goal.returns-clause-seats
returns-clause-seats g c = kept

pub returns-clause-optimal : goal.returns-clause-optimal
returns-clause-optimal g c = plans-stay_optimal

pub returns-clause-hindsight : goal.returns-clause-hindsight
returns-clause-hindsight g c = openings-bounded

pub returns-clause-money : goal.returns-clause-money
returns-clause-money g c = adds-up

pub returns-clause-physical : goal.returns-clause-physical
returns-clause-physical g c = decide-nothing

pub returns-clause-legs : goal.returns-clause-legs
returns-clause-legs g c = leg-texts-determined

pub returns-clause-means : goal.returns-clause-means
returns-clause-means g c = values-are-means

pub returns-clause-groupings : goal.returns-clause-groupings
returns-clause-groupings g c = no-grouping-costs-less

pub returns-clause-policies : goal.returns-clause-policies
returns-clause-policies g c = no-policy-earns-more

pub returns-clause-protections : goal.returns-clause-protections
returns-clause-protections g c = protections-earn-all

pub returns-clause-requests : goal.returns-clause-requests
returns-clause-requests g c = requests-answered

pub returns-clause-determined : goal.returns-clause-determined
returns-clause-determined g c = determined

pub returns-clause-states : goal.returns-clause-states
returns-clause-states g c = states-determined

pub returns-clause-free : goal.returns-clause-free
returns-clause-free g c = other-lines

pub returns-clause-there : goal.returns-clause-there
returns-clause-there g c = runs

pub returns-clause-call : goal.returns-clause-call
returns-clause-call g c =
    let does = c.run_asked.ensures.does in
    let ends = same-job-ends _ _ _ _ c.run_asked.result c.asked_in.ensures.job does.ends in
    let complete = completes _ _ _ c.run_asked.result ends in
    record { ends = ends; complete = complete; failures = does.failures; goes = does.goes; passes = planned-passes _ _ _ c.run_asked.result complete }

pub returns-clause-printed : goal.returns-clause-printed
returns-clause-printed g c = printed-optimal

pub returns-clause-parts : goal.returns-clause-parts
returns-clause-parts g c = first-parts

pub returns-clause-networks : goal.returns-clause-networks
returns-clause-networks g c = taken-network

pub returns-clause-own : goal.returns-clause-own
returns-clause-own g c = own-passes

pub returns-clause-others : goal.returns-clause-others
returns-clause-others g c = optimal-pass
