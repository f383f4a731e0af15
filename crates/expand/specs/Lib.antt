-- What the contracts of this crate cite beside the rules of `notation` and the laws.
pub mod Meaning
pub mod Steps
pub mod Places
