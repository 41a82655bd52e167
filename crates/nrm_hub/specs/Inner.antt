-- What private functions serve.
pub mod Answered
pub mod Asking
pub mod Outbox
pub mod Rows
pub mod Seats
pub mod Taking
pub mod Told
