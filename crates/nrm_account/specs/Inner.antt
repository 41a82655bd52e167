-- What private functions serve.
pub mod Bases
pub mod Priced
