pub mod Read
pub mod Tested
pub mod Absence
pub mod Answered
pub mod Accepted
pub mod Stores
pub mod Places
pub mod Fetches
