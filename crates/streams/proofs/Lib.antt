pub mod Cuts
pub mod CourseLemmas
