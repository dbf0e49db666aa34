pub mod FrameLaws
pub mod HeaderLaws
