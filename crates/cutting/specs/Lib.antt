-- The definitions that the contracts of the links that cut a site off cite.
pub mod Cuts
