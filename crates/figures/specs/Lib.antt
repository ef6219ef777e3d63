pub mod Pledges
pub mod Books
pub mod Lendings
pub mod Notices
