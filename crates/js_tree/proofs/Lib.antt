pub mod Broken
pub mod Folding
pub mod Runs
pub mod StatementLists
