pub mod Draws
pub mod Laws
pub mod MadeCommands
pub mod MadeNetwork
