-- The definitions that the contracts of the two runs cite.
pub mod Left
