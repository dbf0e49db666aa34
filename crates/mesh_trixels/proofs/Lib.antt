pub mod CornerLaws
pub mod SmallTrixels
