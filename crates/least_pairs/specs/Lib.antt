-- What plannings are and what is proved of them.
pub mod Views
pub mod Routes
pub mod Runs
pub mod Trees
pub mod Plans
pub mod Laws
pub mod Rightness
pub mod Sizing
pub mod Theorems
