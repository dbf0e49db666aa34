pub mod FilterLaws
pub mod RayLaws
