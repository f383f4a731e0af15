-- Ranges sorted by their low ends.
pub mod Sorted
-- The layers that ranges have.
pub mod Contains
-- Ranges with a layer at least between one and the next.
pub mod Apart
-- The complement.
pub mod Complement
