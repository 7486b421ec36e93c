-- What the proofs of the reading of pairs share.
pub mod Writing
pub mod Turns
pub mod Backwards
pub mod Both
pub mod Homeward
pub mod Homes
pub mod Descending
pub mod Held
