pub mod HintLaws
pub mod SearchLaws
pub mod ShiftLaws
pub mod StoredLaws
