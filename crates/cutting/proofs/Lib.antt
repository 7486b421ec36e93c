-- Lemmas of the links that cut a site off.
pub mod Passing
pub mod Topping
