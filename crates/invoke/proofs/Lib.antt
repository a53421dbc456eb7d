pub mod Accepted
pub mod Fresh
pub mod Begun
pub mod Freed
pub mod Depth
pub mod Editions
pub mod Decided
pub mod Outcomes
