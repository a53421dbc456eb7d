pub mod Answers
pub mod Entry
pub mod Seen
pub mod Near
pub mod Fetches
pub mod Outcomes
