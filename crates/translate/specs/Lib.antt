pub mod Place
pub mod Checks
pub mod Translate
pub mod Columns
pub mod Fits
pub mod Presence
pub mod Fetches
