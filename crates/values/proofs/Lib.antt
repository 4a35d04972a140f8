-- Lists as sets, putting tuples in, the worklist, and what each operation gathers.
pub mod Theory
pub mod Inserting
pub mod Closing
pub mod Relations
