-- Lemmas about streets and whole grids.
pub mod Pairs
pub mod Whole
