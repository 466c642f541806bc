pub mod Laws
pub mod Leaves
pub mod Source
pub mod Texts
