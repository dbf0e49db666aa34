pub mod Children
pub mod Walk
