-- A run of ranges as they are written.
pub mod Front
-- Ranges read back from their bytes.
pub mod Reading
-- What is answered.
pub mod Answers
