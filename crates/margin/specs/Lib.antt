pub mod Backing
pub mod Margins
pub mod Pledges
pub mod Notices
pub mod Refunds
pub mod BuyIns
