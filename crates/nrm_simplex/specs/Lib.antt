pub mod Solving
pub mod Inner
