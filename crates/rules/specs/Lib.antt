-- The rules on plain records: tuples and facts, lines and alternatives, look-ups and plans, room.
pub mod Facts
pub mod Rules
pub mod Looked
pub mod Room
