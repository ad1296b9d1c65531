-- What the proofs of several functions use, and the theorem.
pub mod Signed
pub mod Theorems
pub mod Joining
