pub mod EntryLaws
pub mod ShiftLaws
pub mod SearchLaws
pub mod MovedLaws
