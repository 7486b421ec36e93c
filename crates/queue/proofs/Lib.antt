-- Lemmas on the queue.
pub mod Precedence
pub mod Standing
pub mod Rising
pub mod Writing
pub mod Slices
pub mod Ends
pub mod Sizes
pub mod Soundness
