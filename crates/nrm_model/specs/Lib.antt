pub mod Demand
pub mod Inventory
pub mod Limits
pub mod Network
pub mod Stored
pub mod Tables
