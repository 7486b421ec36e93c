pub mod Sums
pub mod Rules
mod Counting
