pub mod Boxed
pub mod Laws
pub mod Made
pub mod Room
pub mod RowsOf
pub mod Siblings
