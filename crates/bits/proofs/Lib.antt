mod Digits
mod Operators
pub mod Bits
pub mod Words
