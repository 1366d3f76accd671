pub mod Layout
pub mod Memory
pub mod Precedence
pub mod Reading
pub mod Rule
