pub mod WidthLaws
pub mod NanLaws
pub mod ValueLaws
pub mod ProductLaws
pub mod Examples
