pub mod DepthLaws
pub mod GreatestLaws
pub mod QuotLaws
pub mod RootLaws
pub mod SizeLaws
pub mod Sizes
pub mod VectorLaws
