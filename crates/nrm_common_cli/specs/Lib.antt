pub mod About
pub mod Faults
pub mod Inner
pub mod NetworkFile
pub mod Outside
pub mod Puts
pub mod Refusals
pub mod Words
