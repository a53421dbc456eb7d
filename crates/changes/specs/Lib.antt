pub mod Keys
pub mod Entry
pub mod List
pub mod Copies
