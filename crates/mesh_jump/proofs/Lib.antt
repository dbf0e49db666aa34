pub mod GivenLaws
pub mod JumpLaws
pub mod JumpLoop
pub mod JumpPath
pub mod StartLaws
