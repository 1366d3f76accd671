pub mod Lists
pub mod Says
pub mod Sound
