pub mod Answered  -- commands that a controller answered one after another, and one of them that was cut
pub mod Clerks  -- what a clerk's answers come to: one after another, cut, and sent on
pub mod Determined  -- commands determine replies and states, where memory suffices
pub mod FirstParts  -- each first part of a run is a run
pub mod Hindsights  -- the value of hindsight bounds every selection of the requests so far
pub mod InForce  -- the plan in force stays one of the network
pub mod Money  -- what was sold in all is the revenue, what was given back, and what is withheld
pub mod OtherLines  -- lines that take no memory never run out of it
pub mod Periods  -- periods that a network has, and one that it lacks
pub mod PhysicalSeats  -- two networks that differ in their physical seats alone have the same runs, but for the texts of legs
pub mod Pieces  -- what one call of the splitter adds to the lines that were answered
pub mod PrintedPlans  -- the prices of a `plan` line are those of the last line that was answered `optimised`
pub mod Runs  -- each list of commands has a run
pub mod Seats  -- no step oversells a leg
pub mod ServedBy  -- what follows from how a session was served, whatever was made of its commands
pub mod SessionEnds  -- from the bytes that were taken so far to what each end of a session says
pub mod Steps  -- what the controller's calls answer is a step
pub mod Verdicts  -- the reply to a request is the one that the headline says
pub mod Wholes  -- how long a whole number of 128 bits is
