pub mod Answers
pub mod Commands
pub mod Hexes
pub mod Sheets
pub mod Words
