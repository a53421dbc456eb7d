pub mod Splice
pub mod Word
pub mod Run
pub mod Sizes
pub mod Library
