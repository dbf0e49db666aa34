pub mod Lists
pub mod Moves
