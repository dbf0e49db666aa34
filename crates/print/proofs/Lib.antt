pub mod CoverLaws
pub mod HeaderLaws
