pub mod Book
pub mod Bookings
pub mod OnLeg
pub mod Seats
pub mod Standing
pub mod Stored
