pub mod Value
pub mod RowSets
pub mod Laws
pub mod Inner
