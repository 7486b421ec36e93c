-- The definitions that the contracts of the working tables and of the planner's refusals cite.
pub mod Refusing
pub mod Room
