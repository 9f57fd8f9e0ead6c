pub mod Entries
pub mod Ranks
pub mod Finds
pub mod Contents
pub mod Changed
pub mod Laying
