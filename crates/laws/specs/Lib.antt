pub mod Worlds
pub mod Calls
pub mod Sums
pub mod Laws
