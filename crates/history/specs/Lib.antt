pub mod Calls
pub mod Refusals
pub mod Replay
pub mod Claims
pub mod Heap
pub mod Records
pub mod Editions
pub mod Listed
