pub mod Divisions
pub mod Inner
pub mod Laws
pub mod Points
