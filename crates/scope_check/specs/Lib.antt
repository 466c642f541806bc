pub mod Covers
pub mod Entries
pub mod Laws
pub mod Least
pub mod Untrue
