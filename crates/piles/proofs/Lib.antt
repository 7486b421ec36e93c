-- Lemmas of what lies under the layers of a pile.
pub mod Under
