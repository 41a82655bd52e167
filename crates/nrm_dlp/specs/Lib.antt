pub mod Hindsight
pub mod Laws
pub mod Programs
