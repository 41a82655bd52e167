-- What private functions serve.
pub mod Faults
pub mod Statements
pub mod Table
