pub mod Conditions
pub mod Laws
pub mod Named
pub mod ReadBack
pub mod Reading
pub mod Refusals
pub mod Inner
pub mod Texts
