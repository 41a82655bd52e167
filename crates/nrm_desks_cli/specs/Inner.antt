-- What private functions serve.
pub mod Ending
pub mod Handling
pub mod Parts
pub mod Serving
