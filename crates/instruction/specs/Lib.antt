pub mod Said
pub mod Kinds
pub mod Kind
pub mod Names
pub mod Fields
pub mod Unread
pub mod Prices
