-- Small facts that the proofs of other crates use.
pub mod Bools
-- Closed examples that pin the definitions of specs/, and the marked items of document 01.
pub mod Opened
pub mod Examples
pub mod Marked
