-- Lemmas on certificates.
pub mod Scans
pub mod Routes
pub mod Back
pub mod Forth
pub mod Outcomes
pub mod Buffers
pub mod Payload
pub mod Gives
