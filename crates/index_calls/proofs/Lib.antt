pub mod CallLaws
pub mod LookupLaws
