pub mod Rows
pub mod Seals
pub mod View
