-- The laws of fields of any widths, of the packed record's places, of writing and reading it, and of its kinds.
pub mod Cut
pub mod Packed
pub mod RoundTrip
pub mod Same
pub mod Numbered
pub mod SameKind
pub mod KindTests
pub mod Written
pub mod Zeros
pub mod Leaves
-- A record copied, a field stored in it, and a record undone.
pub mod Copying
pub mod Storing
pub mod Undoing
pub mod Overflows
