pub mod Call
pub mod Ends
pub mod Inner
pub mod Jobs
pub mod Statuses
