pub mod Files
pub mod Numbers
pub mod Words
