pub mod Row
pub mod Bytes
pub mod Meaning
pub mod Bounds
pub mod Number
pub mod Joined
