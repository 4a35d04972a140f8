-- Lawfulness, tuples as lists, what rows show, counts, and constraints.
pub mod Numbers
pub mod Labels
pub mod Places
pub mod Shown
pub mod Variables
pub mod RowShown
pub mod Counted
pub mod Laying
pub mod Deciding
pub mod Constrained
pub mod Judging
