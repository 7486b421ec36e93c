-- What the contracts cite: what layers show and refuse; and the lemmas that laws in src/ name (LayerLaws, SurchargeLaws).
pub mod Shown
pub mod Refusing
pub mod LayerLaws
pub mod SurchargeLaws
