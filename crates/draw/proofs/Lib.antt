mod Orders
mod Nearest
mod Before
mod Places
mod Going
pub mod Told
