pub mod Inverting
pub mod Stepping
pub mod Naming
