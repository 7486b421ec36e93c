-- The definitions that the ledger's contracts cite.
pub mod Refusing
pub mod Rows
pub mod Lending
pub mod Keeping
