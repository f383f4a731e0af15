-- What the contracts of readers cite: what was read, as a reading of the rules.
pub mod Reading
