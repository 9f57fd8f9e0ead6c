pub mod Asking
pub mod Lines
pub mod Page
pub mod Nodes
pub mod Troubles
