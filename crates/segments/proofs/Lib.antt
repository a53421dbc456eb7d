pub mod Rows
pub mod Requests
pub mod Table
