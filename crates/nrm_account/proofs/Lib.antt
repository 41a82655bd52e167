pub mod Accounts  -- the rule over an account gives the reply
pub mod Fares  -- the fare against the bid prices of the legs
pub mod Parties  -- the largest party that is sold
pub mod LeastOpen  -- the least of some numbers and of one more
pub mod Pieces  -- a text of five pieces
pub mod Bases  -- what seats that are enough are worked out from, as it is told
pub mod Told  -- lines that a teller read one after another
pub mod OwnLines  -- what is written as lines are read is the account of the line that is asked for
pub mod PlanMakers  -- the line that is told as the one that made a plan did make it
pub mod OneAccount  -- an account gives its reply, and a line has one account
mod Examples  -- accounts by hand
