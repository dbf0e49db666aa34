pub mod Values
pub mod TrialValues
pub mod ShortLists
