-- The numbers of trials as the calls speak of them, and the parts of a step that the code makes apart.
pub mod View
pub mod Steps
