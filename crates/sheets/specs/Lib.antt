-- What the crate's contracts cite.
pub mod Faults
pub mod Naming
pub mod Gathering
pub mod Reads
pub mod Judging
