-- The ranges of a prefix are ranges of the axis.
pub mod OnAxis
-- The theorem.
pub mod Tilde
