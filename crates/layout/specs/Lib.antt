pub mod Address
pub mod Page
pub mod Snapshot
pub mod Control
pub mod List
