pub mod Bounds
pub mod Meaning
