pub mod Slots
pub mod Kept
pub mod Prices
pub mod Causes
