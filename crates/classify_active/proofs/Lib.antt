pub mod ActiveRegionLaws
pub mod ActiveConvexLaws
pub mod AnchorLaws
