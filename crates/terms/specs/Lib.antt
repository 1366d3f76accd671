pub mod Accesses
pub mod Pairs
pub mod Refusals
pub mod Replies
pub mod Same
