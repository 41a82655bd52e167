-- What private functions serve.
pub mod Nest
pub mod Sums
pub mod Ranked
