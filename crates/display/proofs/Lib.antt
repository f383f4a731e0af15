-- Writing one thing after another, and the laws of what is written.
pub mod Writing
pub mod Decimals
pub mod Signs
pub mod ByKind
-- Packed nodes.
pub mod Nodes
-- Layer sets in braces, and constraint sets as text without white space.
pub mod Elements
pub mod Squeezing
-- Leaves and the parts of the text that they name.
pub mod Leaves
-- A bound on what is printed.
pub mod Sizes
pub mod Sure
pub mod Room
