-- Small facts.
pub mod Outcomes
pub mod Bools
pub mod ListEntries
pub mod All
-- Unrolling, inverses, counting, seeking.
pub mod Unrolling
pub mod FirstRefusal
pub mod Inverses
pub mod Reached
pub mod Refused
pub mod Weights
pub mod Folds
pub mod Counting
pub mod Opened
pub mod Examples
pub mod Seeking
-- Packed trees and their inverses.
pub mod Fits
pub mod Packing
pub mod Unpacking
pub mod WellFormedInverses
pub mod Walking
pub mod Stored
pub mod Heads
pub mod GoodSteps
-- What reading yields.
pub mod InRange
pub mod Readers
pub mod Runs
pub mod Characters
pub mod Braces
pub mod LayerSets
pub mod ReadingYields
-- Nesting of texts and trees.
pub mod Parens
pub mod PlainBytes
pub mod Nesting
pub mod PrintedNesting
-- Printing and reading back.
pub mod ReadBack
-- Accepted texts, and printed trees that are accepted.
pub mod Accepting
pub mod Tidy
pub mod PrintedBack
-- Inverses of accepted trees, demand 3, and the undo view.
pub mod KeptByInverses
pub mod KeptNumbers
pub mod InverseAgrees
pub mod DemandThree
pub mod Harmless
pub mod UndoView
