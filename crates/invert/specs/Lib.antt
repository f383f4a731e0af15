-- What the contracts of this crate cite beside the rules of `notation` and their laws.
pub mod Nodes
