pub mod ClassLaws
pub mod Edges
pub mod NeverBoth
pub mod RaysFirst
pub mod WithinApart
