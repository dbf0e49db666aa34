pub mod Middle
pub mod Reach
