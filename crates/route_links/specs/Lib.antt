-- The definitions that the contracts of a route's links cite.
pub mod Along
