pub mod Fares
pub mod Protections
pub mod Laws
pub mod Inner
