pub mod Floats
pub mod Widths
pub mod Values
pub mod Reports
