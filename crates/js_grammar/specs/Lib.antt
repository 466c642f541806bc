pub mod Choice
pub mod Classes
pub mod Derivation
pub mod Laws
pub mod Rows
pub mod TokenClasses
