pub mod EdgeLaws
pub mod Enclosing
pub mod FarLaws
pub mod LeastFarLaws
pub mod ClassLaws
