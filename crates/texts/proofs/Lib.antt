pub mod Answering
pub mod Commands
pub mod Hexes
pub mod Sheeting
pub mod Wording
