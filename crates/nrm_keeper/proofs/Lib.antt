pub mod RowLemmas
pub mod Texts
pub mod StoredLemmas
pub mod ToldLemmas
pub mod Creates
pub mod Inserts
pub mod Deletes
pub mod Selects
pub mod Finds
pub mod AnySchema
pub mod AnyState
pub mod Steady
pub mod Effects
pub mod OverMemory
pub mod ShownLemmas
mod Examples
pub mod FileLemmas
pub mod FirstRows
