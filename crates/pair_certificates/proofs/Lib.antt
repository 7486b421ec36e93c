-- Lemmas on the certificates of pairs.
pub mod Sums
pub mod Once
pub mod Within
pub mod Answered
