-- The definitions that the contracts of surveys cite.
pub mod Surveys
