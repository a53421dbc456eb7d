pub mod Settings
pub mod Trials
