-- Proofs of what is said of boards and their registers.
pub mod Agreeing
pub mod Circuits
