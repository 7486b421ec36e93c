-- Lemmas on writing sheets.
pub mod Lengths
