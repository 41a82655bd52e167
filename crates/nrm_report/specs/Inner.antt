-- What private functions serve.
pub mod Nests
