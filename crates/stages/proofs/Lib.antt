-- Lemmas of the stages.
pub mod Marking
pub mod Considering
