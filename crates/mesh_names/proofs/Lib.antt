pub mod DepthBits
pub mod NameReading
pub mod NameWriting
