pub mod Encoding
pub mod Place
pub mod Reread
pub mod Back
pub mod Given
pub mod Judged
pub mod RoundTrip
