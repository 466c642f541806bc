pub mod Keeper
pub mod Laws
pub mod Left
pub mod Lookahead
pub mod Machine
