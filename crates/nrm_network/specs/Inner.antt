pub mod Draft
pub mod Entries
pub mod Faults
pub mod Fields
pub mod Front
pub mod Lines
pub mod RowFields
pub mod RowText
