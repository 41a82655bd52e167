pub mod Cuts
pub mod Cutting
pub mod Frames
pub mod Headers
pub mod Outgoing
