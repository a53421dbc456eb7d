pub mod Good
pub mod Applied
pub mod Range
