-- What the contracts of this crate cite beside the rules of `notation`.
pub mod Meaning
pub mod Nodes
