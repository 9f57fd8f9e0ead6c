pub mod Node
pub mod Tree
pub mod Updates
pub mod Stands
