pub mod LookupLaws
pub mod NameLaws
pub mod NamesInverse
pub mod Path
pub mod Ties
pub mod RotationLaws
pub mod Rotated
