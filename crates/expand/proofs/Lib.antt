-- What the proofs of several functions use.
pub mod Shapes
pub mod Counting
pub mod Steps
pub mod Undoing
pub mod AsSteps
pub mod Parts
pub mod Repeating
pub mod Turning
pub mod Completing
pub mod Flattening
pub mod Seeking
