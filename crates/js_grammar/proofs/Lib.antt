pub mod Begins
pub mod Each
pub mod Forced
pub mod Known
pub mod Offending
