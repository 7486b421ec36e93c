-- What the crate's contracts cite.
pub mod Faults
pub mod Records
