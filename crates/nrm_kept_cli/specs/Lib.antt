pub mod Ends
pub mod Inner
pub mod Jobs
pub mod Laws
pub mod Rows
pub mod Run
pub mod Statuses
pub mod Step
