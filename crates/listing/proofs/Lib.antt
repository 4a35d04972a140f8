-- What is put on a page piece after piece, and how long lines are at most.
mod Pages
mod Pieces
