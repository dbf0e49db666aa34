pub mod FileLaws
pub mod NumberLaws
pub mod StoredFiles
pub mod WordLaws
