pub mod Pages
pub mod Grown
pub mod Shrunk
pub mod Listed
pub mod Gives
pub mod Accepted
