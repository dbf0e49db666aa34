pub mod Exposures
pub mod Entries
pub mod Answers
pub mod HistoryCorrect
pub mod Noninterference
