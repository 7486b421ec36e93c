-- The definitions that the contracts of the uses of a hold cite.
pub mod Uses
