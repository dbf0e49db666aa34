pub mod Counts
pub mod InnerStored
pub mod OuterStored
pub mod Pushes
