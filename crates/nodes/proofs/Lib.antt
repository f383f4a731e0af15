-- What the proofs of the walkers use.
pub mod Nodes
pub mod Opened
pub mod Parting
