pub mod Records
pub mod Lines
pub mod Play
pub mod Writing
pub mod Laws
pub mod Program
