pub mod LastRow
pub mod ReadAnswers
pub mod ReadingLaws
pub mod RecordLaws
