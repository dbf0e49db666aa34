pub mod Measures
pub mod PreparedLists
pub mod PreparedRegions
