pub mod Laws
pub mod Lexical
pub mod Number
pub mod NumberLaws
pub mod Lane
pub mod LaneLaws
pub mod Label
pub mod LabelLaws
