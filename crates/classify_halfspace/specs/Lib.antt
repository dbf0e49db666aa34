pub mod Halfspaces
pub mod LeastFar
