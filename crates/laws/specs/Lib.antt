-- What contracts cite beside the rules of `notation`: the walks without their refusals, weights and folds over them, opened lists,
-- and packed lists.
pub mod Unrolled
pub mod Inverted
pub mod Weights
pub mod Folds
pub mod Opened
pub mod Packed
pub mod Heads
-- What holds throughout a list.
pub mod All
