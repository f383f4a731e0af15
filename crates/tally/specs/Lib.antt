-- What the contracts of this crate and of reading cite beside the rules of `notation` and their laws.
pub mod Tallies
