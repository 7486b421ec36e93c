-- Proofs of what desks keep.
pub mod Hands
pub mod Emptying
