-- Lemmas of surveys.
pub mod Entries
