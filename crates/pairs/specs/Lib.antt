-- The definitions that the contracts of the reading of pairs cite.
pub mod Tables
pub mod Reading
pub mod Walking
