pub mod Outcomes
pub mod Counting
pub mod Records
pub mod Played
