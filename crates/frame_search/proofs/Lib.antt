pub mod Matches
pub mod Loops
pub mod Ranges
