-- What the contracts and laws of this crate cite beside the rules of `notation`.
pub mod Meaning
pub mod Kinds
pub mod Range
pub mod Unused
pub mod Undone
