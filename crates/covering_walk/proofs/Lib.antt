pub mod ChildLaws
pub mod RowsLaws
pub mod VisitLaws
