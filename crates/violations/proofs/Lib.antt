pub mod Along
pub mod EarlyOrder
pub mod Least
pub mod UntrueOrder
