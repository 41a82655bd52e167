pub mod Attained  -- an allocation of the program of hindsight gains its value
pub mod Bounds  -- the value of hindsight bounds each allocation of its program
pub mod Hindsights  -- hindsight: its program is within the limits, and it has one value, or is Large in one place
pub mod Limited  -- the program of a network is within the limits
