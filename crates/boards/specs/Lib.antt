-- The definitions that the contracts of boards cite.
pub mod Refusing
pub mod Boards
pub mod Calls
pub mod Settling
pub mod Orders
