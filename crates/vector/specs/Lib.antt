pub mod Numbers
pub mod Vectors
