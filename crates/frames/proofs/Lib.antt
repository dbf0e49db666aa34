pub mod AheadLaws
pub mod WalkLaws
pub mod Examples
