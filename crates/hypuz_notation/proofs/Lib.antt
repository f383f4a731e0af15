pub mod Agreeing
pub mod Handing
