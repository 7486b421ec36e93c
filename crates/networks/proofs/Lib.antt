-- Lemmas about lists of links, soundness, layers and takes.
pub mod Numbering
pub mod Soundness
pub mod Layering
pub mod Taking
