pub mod CheckEnds  -- how a check ends, out of what its parts say
pub mod CompleteJobs  -- a job is done if the words are good, its file is valid and nothing failed
pub mod CutTexts  -- a text that was put whole and couldn't be sent on, and one in which a put failed, are cut
pub mod Examples  -- sessions, refusals, statuses and ends worked, from the bytes of the file and of the stream to those that are written
pub mod LegEnds  -- how a job ends that tells of its network and nothing else
pub mod MadeRuns  -- the commands of a maker are answered one after another, and their replies counted
pub mod NoNetworkEnds  -- how a job ends if its file gives no network
pub mod OneLegText  -- what is told of a leg is determined
pub mod OwnPasses  -- the text of the closing of a network's program is found optimal, and so is each optimal certificate
pub mod PlanEnds  -- how a job ends that has an opening plan, or none since its program is Large or memory ran out
pub mod PlannedPasses  -- what a call with `plan bid FILE` wrote passes the check
pub mod RunEnds  -- how a run ends whose file gave a network, out of how the session over its stream ended
pub mod SessionRuns  -- what a session from the opening wrote is the output of a run
pub mod ToldEnds  -- a text that is told, whole or cut, ends the call as it is defined
