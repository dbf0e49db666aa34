pub mod CapLaws
pub mod ClearanceLaws
pub mod ReachLaws
