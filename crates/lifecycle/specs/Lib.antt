pub mod Regions
pub mod Left
