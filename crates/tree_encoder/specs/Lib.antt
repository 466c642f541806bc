pub mod File
pub mod Laws
pub mod Length
pub mod Writing
