-- Which buffers surely suffice, and that the modulo of the C functions' answers never bites.
pub mod Sizes
pub mod Values
