-- The definitions that the contracts of the queue cite.
pub mod Entries
pub mod Heaps
pub mod Queues
