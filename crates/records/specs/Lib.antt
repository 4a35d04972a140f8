pub mod Kinds
pub mod Reading
pub mod Refusals
pub mod Tuples
pub mod Verdicts
