pub mod Fields
pub mod Entries
pub mod OnlyTable
pub mod Untouched
pub mod Found
pub mod Claims
pub mod Free
