pub mod Layout
pub mod Records
pub mod Laws
pub mod Calls
pub mod Answers
pub mod Back
pub mod RoundTrip
