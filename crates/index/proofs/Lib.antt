pub mod Kept
pub mod Reaching
pub mod Staying
pub mod Stepping
