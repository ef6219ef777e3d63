pub mod Amounts
pub mod Bonds
pub mod Guarantees
pub mod BondRules
pub mod Reach
