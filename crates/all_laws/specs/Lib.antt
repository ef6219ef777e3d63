pub mod Worlds
pub mod Calls
pub mod Entries
pub mod Laws
