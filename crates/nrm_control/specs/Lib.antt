pub mod Refunds
pub mod Standing
pub mod State
pub mod Verdict
