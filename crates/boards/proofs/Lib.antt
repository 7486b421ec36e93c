-- Proofs of what boards do.
pub mod States
pub mod Truths
pub mod Orders
pub mod Holdable
