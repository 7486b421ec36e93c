-- Lemmas on the format.
pub mod Checks
pub mod Back
pub mod Runs
pub mod Unique
pub mod Steps
pub mod Totality
