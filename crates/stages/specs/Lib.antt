-- The definitions that the contracts of the stages cite.
pub mod First
pub mod Marks
pub mod Once
pub mod Second
