-- What the contracts cite: street grids.
pub mod Streets
