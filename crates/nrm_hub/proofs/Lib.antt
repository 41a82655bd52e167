pub mod Going
pub mod HubLines
pub mod HubPlaces
pub mod HubPuts
pub mod AskingWords  -- a line of more than three words asks nothing of the hub itself
pub mod LineAnswers  -- one line of a client that is a desk, answered
pub mod OfFields  -- the value of a hub, and of a register, out of its fields
pub mod Entered  -- what holds of a register once something is entered
pub mod ClientLines  -- the lines of one client
pub mod AgainRows  -- rows that are given again
pub mod KnownRows  -- what a desk knows is what its own rows leave
pub mod RegisterFits  -- what a register has of the rows that were carried out, and how it goes on
pub mod RegisterLines  -- what a register has after a line of a client
pub mod RegisterLists  -- lists of a register: a place that changes, a desk by its name, rows one behind another
pub mod RegisterReplies  -- replies that rows have
pub mod RegisterRights  -- a line beyond a client's rights changes nothing
pub mod ClientPlaces  -- who is at a place, once one place changed or places were added
pub mod ClientAnswers  -- the lines of one client among those that were answered
pub mod ClientTells  -- what a line that is taken leaves of its client
pub mod ClientSeats  -- what stands of the clients at their places
pub mod ClientsServed  -- what stands of the register and what stands of the clients, in one
pub mod ClientsStand  -- whatever happens at the desks, each client is told the replies to its own lines
pub mod RegisterStates  -- what leaves no row leaves the state as it is, so the rows give it
pub mod Registers  -- what a register represents in every world
pub mod HubSteps
pub mod HubTurns  -- what a turn leaves of a client
pub mod DuePlaces  -- the places at which something is due, as clients change
pub mod HubInvariants  -- what holds of each hub, as its clients and what is awaited change
pub mod Phases  -- what a step does to what is awaited
pub mod Unseated  -- clients that are to be closed, since another client is their desk
mod Examples  -- worked by hand
