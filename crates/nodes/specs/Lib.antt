-- What the contracts of this crate and of the walkers cite beside the rules of `notation` and the laws.
pub mod Nodes
pub mod Parted
