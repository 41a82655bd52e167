pub mod AfterCalls  -- what a controller keeps through its calls
pub mod Bounds  -- the value of hindsight bounds the requests of each state that a controller represents
pub mod Cancellations  -- what a cancellation takes off the bookings, and what it gives back and withholds
pub mod Inventories  -- a network's inventory, and what is known of its legs
pub mod States  -- the states that a controller represents after a call
pub mod Tallies  -- the tallies of past requests: one request more, and beside the bookings
