pub mod Bytes
pub mod Took
