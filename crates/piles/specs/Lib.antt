-- The definitions that the contracts of piles cite.
pub mod Piles
