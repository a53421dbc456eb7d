pub mod Codes
pub mod Apart
pub mod Listable
pub mod Written
pub mod Pairs
pub mod Answers
