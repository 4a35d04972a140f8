-- Values of terms: lists without repetition, what tuples make, what each operation holds, and values in slots.
pub mod Sets
pub mod Tuples
pub mod Gathers
pub mod Held
