pub mod Limits
pub mod Layers
pub mod Faults
pub mod Shown
pub mod Outcome
pub mod Seen
pub mod File
