pub mod PreparedLaws
pub mod PreparingLaws
