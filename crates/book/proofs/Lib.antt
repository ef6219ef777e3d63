pub mod Releases
pub mod Buying
