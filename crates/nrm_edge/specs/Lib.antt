pub mod Causes
pub mod Fetch
pub mod Memory
pub mod Pieces
pub mod Streams
