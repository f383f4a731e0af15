-- The laws of each way of writing a number, over the base or the width.
pub mod Positional
pub mod BigEndian
pub mod TwosComplement
pub mod DigitRuns
pub mod Bounds
