pub mod Answer
pub mod Canonical
pub mod Causes
pub mod Checks
pub mod File
pub mod Inner
pub mod Rows
pub mod Valid
