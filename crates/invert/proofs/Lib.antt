-- When a pair has no inverse.
pub mod Refusing
-- Nodes, and the loops over them that write backwards or look for the last refusal.
pub mod Nodes
pub mod Loops
pub mod Exchanging
