pub mod Entries
pub mod Best
pub mod Walks
