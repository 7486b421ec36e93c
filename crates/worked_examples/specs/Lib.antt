-- What the crate's contract cites.
pub mod Table
