-- What the crate's contracts cite.
pub mod Writes
pub mod Wholes
