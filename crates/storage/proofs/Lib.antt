-- What the proofs of several functions use, and the theorems.
pub mod Signed
mod Looking
pub mod Theorems
