-- What the contracts cite: what networks are, tell and refuse.
pub mod Meaning
pub mod Changing
pub mod Refusing
pub mod Telling
pub mod Owning
