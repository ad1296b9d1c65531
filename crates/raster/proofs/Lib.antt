-- What the proofs of several functions use.
pub mod Signed
pub mod Writing
pub mod Rows
