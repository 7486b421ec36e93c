-- What boards, their calls and their registers are, and what is proved of them.
pub mod States
pub mod Events
pub mod Registers
pub mod Histories
pub mod Theorems
