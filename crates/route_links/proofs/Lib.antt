-- Lemmas of a route's links.
pub mod Channelled
pub mod Summing
