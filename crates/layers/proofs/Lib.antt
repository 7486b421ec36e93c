-- Lemmas about tables, about layers that change no link, and about what every layer passes down.
pub mod Tables
pub mod Bare
pub mod Passing
