pub mod Classes
pub mod Inner
pub mod Laws
pub mod Policies
pub mod Seasons
pub mod Table
