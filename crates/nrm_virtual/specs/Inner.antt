-- What private functions serve.
pub mod Written
