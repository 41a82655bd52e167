pub mod Laws
pub mod Nesting
pub mod Plans
pub mod Inner
