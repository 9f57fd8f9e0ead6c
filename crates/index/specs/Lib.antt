pub mod Extents
pub mod Reach
pub mod Views
pub mod Runs
