pub mod Lost
pub mod Texts
