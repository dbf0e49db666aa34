pub mod CutLaws
pub mod QuotientSizes
pub mod BendFacts
pub mod Plain
pub mod PlainLaws
pub mod TestLaws
pub mod Known
pub mod Computed
