-- What the contracts of this crate cite beside the rules of `notation`.
pub mod Most
pub mod Written
pub mod Nodes
pub mod Sets
pub mod Squeezed
pub mod Bound
