pub mod Shape
pub mod Classes
