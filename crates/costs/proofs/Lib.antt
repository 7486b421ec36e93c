-- Lemmas on cost kinds.
pub mod Group
pub mod Order
pub mod Quoted
pub mod Totals
pub mod Counted
pub mod Working
