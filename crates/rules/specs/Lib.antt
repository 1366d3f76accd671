pub mod Components
pub mod Descriptors
pub mod Lists
pub mod Rules
pub mod Same
