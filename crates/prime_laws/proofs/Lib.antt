-- Straight texts: their characters, and the runs of them that readers take.
pub mod Plain
pub mod Firsts
pub mod Fronts
-- The text as given and the straight text, read at once.
pub mod Follows
pub mod Readers
pub mod Parts
pub mod Signs
pub mod Nodes
-- The theorems.
pub mod Straight
pub mod Unchanged
