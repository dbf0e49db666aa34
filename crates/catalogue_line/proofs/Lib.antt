pub mod Examples
pub mod LinesInverse
pub mod ReadingLaws
