pub mod Asked
pub mod BareEarly
pub mod Choosing
pub mod Firsts
pub mod Inside
pub mod QuietScopes
pub mod LikeReading
pub mod RenamedEarly
pub mod RenamedRules
mod Rows
pub mod Seen
pub mod Sites
