-- The definitions that the contracts of a run cite, and lemmas for ghost fields over its tables.
pub mod Codes
pub mod Lent
pub mod Offers
pub mod Tables
pub mod Turns
