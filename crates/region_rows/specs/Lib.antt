pub mod Opening
pub mod RegionSizes
