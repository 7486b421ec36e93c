-- The definitions that the contracts of the cost kinds cite, and the lemmas that a law in src/ names (PairLaws).
pub mod Links
pub mod Costs
pub mod Lengths
pub mod Pairs
pub mod Counting
pub mod PairLaws
