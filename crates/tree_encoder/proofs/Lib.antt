pub mod InGrammar
pub mod Lengths
pub mod Stay
pub mod Walk
pub mod Whole
