pub mod Header
pub mod Accounts
pub mod Lookup
