pub mod Among
pub mod Kinds
pub mod Numbers
pub mod Renames
pub mod Tags
