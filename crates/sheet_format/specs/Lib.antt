-- What a sheet is: its records, the rules they keep, and what bytes mean.
pub mod Items
pub mod Rules
pub mod Sheets
pub mod Theorems
