-- The table gives the simplified ranges.
pub mod Table
-- Turned over it gives the other layers.
pub mod Over
-- A walk over the table meets its runs.
pub mod Sweep
-- A walk over a layer set meets its elements.
pub mod SetElements
-- They give ranges of the axis.
pub mod ElementRanges
-- The layers beside one range.
pub mod Beside
-- How many simplified ranges there can be.
pub mod Few
-- What is answered.
pub mod Answers
-- A range, if there is one, as a list.
pub mod Listed
