pub mod GrowthLaws
pub mod WriterLaws
pub mod WritingPass
