pub mod ContentsLaws
pub mod CoverLaws
pub mod Examples
pub mod ListedLaws
