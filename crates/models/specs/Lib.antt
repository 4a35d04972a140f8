-- The check of a model: tuples as lists of names, what the terms' values hold, and what the check answers.
pub mod Tuples
pub mod Rows
pub mod Constraints
pub mod Lawfulness
pub mod Checks
