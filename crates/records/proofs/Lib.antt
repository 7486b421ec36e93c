-- Lemmas on records.
pub mod Numbers
pub mod Cutting
pub mod Round
pub mod Payloads
