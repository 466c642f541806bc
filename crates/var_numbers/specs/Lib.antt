pub mod Laws
pub mod Pattern
pub mod ReadClauses
pub mod Varnum
pub mod VarnumRead
