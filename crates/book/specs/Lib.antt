pub mod Statements
pub mod Shelves
pub mod States
pub mod Collateral
pub mod Examinations
pub mod Refunds
pub mod BuyIns
