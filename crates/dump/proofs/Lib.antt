pub mod Listing
pub mod Rows
pub mod Standing
pub mod Texts
