pub mod Asked  -- the seats that requests ask for of a product
pub mod Choices  -- choices of requests: one request more, and fewer bookings
pub mod Examples  -- requests, tallies and selections on small networks, which a reader can check by hand
pub mod Selections  -- a selection is an allocation of the program of hindsight, and earns no more than its value
pub mod Sums  -- sums over the numbers of a range, and what a program makes of a list that was made from one
pub mod Tallies  -- tallies that are kept capped stand for lists of requests
