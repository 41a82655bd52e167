-- What private functions serve.
pub mod Parts
