pub mod Trixels
pub mod Identifiers
pub mod Lookup
pub mod Names
pub mod Answers
pub mod Rotations
