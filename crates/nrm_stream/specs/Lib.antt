pub mod Commands
pub mod Cuts
pub mod Lines
pub mod Splitting
