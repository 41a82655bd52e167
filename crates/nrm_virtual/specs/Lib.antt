pub mod Adjusted
pub mod Buckets
pub mod Table
pub mod Inner
