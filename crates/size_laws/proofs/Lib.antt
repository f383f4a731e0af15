pub mod Digits
pub mod Sets
pub mod Bytes
pub mod Records
pub mod Printed
pub mod Unrolled
pub mod Made
pub mod Listing
