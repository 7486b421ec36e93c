-- What the crate's contracts cite.
pub mod Format
pub mod Limits
pub mod Scanning
pub mod Meaning
pub mod Theorems
pub mod Faults
pub mod Certificates
pub mod Calls
