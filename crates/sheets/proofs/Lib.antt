-- Lemmas on reading sheets.
pub mod Finding
pub mod Going
pub mod Storing
