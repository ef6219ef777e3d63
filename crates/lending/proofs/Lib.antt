pub mod After
pub mod Totals
mod Ahead
mod Bounds
mod Earnings
mod Fees
mod FromFn
mod Giving
mod Parts
mod Passes
mod Ranks
mod Sorted
mod Tallies
