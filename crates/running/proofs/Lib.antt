-- Lemmas of the two runs.
pub mod Runnables
