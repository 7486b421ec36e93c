-- Lemmas on the record reader.
pub mod Leaving
