pub mod Active
pub mod Anchor
