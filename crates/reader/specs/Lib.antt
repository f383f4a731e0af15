-- What the contracts of this crate cite beside the rules of `notation` and what `parse` says of its answers.
pub mod Cursor
