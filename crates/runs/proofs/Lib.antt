-- The lemmas of the crate.
pub mod Reading
pub mod Spending
pub mod Turning
pub mod Stepping
pub mod Going
