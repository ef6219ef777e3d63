pub mod Places
pub mod Measured
pub mod Steps
pub mod Watch
pub mod Shelved
pub mod Runs
