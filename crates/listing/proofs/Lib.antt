pub mod Lending
pub mod Sizes
pub mod Sought
pub mod Fields
pub mod StepLoop
pub mod FirstLine
