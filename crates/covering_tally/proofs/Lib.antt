pub mod LentTail
pub mod TallyLaws
pub mod WalkLaws
