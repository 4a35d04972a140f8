-- How a stream is cut into records, what judge makes of it, and what its answer says of the stream's sheet.
pub mod Cutting
pub mod Judging
pub mod View
