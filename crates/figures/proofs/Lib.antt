pub mod Lending
pub mod Rates
pub mod Notices
