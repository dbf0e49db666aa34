pub mod CheckingPass
pub mod RowParts
pub mod NumberLaws
pub mod CountLaws
