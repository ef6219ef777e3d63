pub mod Measures
pub mod Sound
pub mod Lending
pub mod Eleven
pub mod Steps
