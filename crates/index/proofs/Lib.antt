pub mod WrittenLaws
pub mod TallyLaws
pub mod OrderLaws
pub mod HistoryKept
pub mod OneList
pub mod Noninterference
pub mod Examples
pub mod CheckOrder
