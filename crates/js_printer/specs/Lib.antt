pub mod Laws
pub mod Listing
pub mod Names
pub mod StringForm
