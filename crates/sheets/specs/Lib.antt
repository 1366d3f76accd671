pub mod Law
pub mod Layout
pub mod Reading
pub mod Sets
pub mod Tables
pub mod Writing
