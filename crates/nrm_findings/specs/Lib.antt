pub mod Certificates
pub mod LegMeans
pub mod LegThresholds
pub mod LegValues
pub mod Summary
