pub mod Adding
pub mod Back
pub mod Remaking
pub mod Stepping
pub mod Typed
pub mod Whole
