-- How a list of records is taken apart, and which bytes are well formed.
pub mod Opening
pub mod Refusing
pub mod Heads
pub mod Formed
-- The tests of leaves, and the walk.
pub mod Tests
pub mod Turns
