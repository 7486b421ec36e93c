-- The definitions that the contracts of desks cite.
pub mod Slots
pub mod Desks
pub mod States
