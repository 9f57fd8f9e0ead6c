pub mod Reading
pub mod Stepping
pub mod Playing
pub mod Leading
pub mod Parts
pub mod Starting
pub mod Lines
