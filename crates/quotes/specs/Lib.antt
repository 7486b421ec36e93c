-- The definitions that the contracts of quotes cite.
pub mod Quotes
