pub mod Does
pub mod Lacks
pub mod Parts
