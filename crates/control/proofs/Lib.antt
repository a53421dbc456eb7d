pub mod Facts
pub mod Kept
pub mod Live
pub mod Records
