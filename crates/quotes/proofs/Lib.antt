-- Lemmas of quotes.
pub mod Answering
pub mod Testing
pub mod Cut
