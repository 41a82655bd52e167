pub mod Ends
pub mod Inner
pub mod Jobs
pub mod Served
pub mod Statuses
