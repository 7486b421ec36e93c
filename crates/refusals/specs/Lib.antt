-- What the contracts cite: the list of all refusals.
pub mod Numbers
