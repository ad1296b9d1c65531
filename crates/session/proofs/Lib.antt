-- `Granted` is what the proofs of several functions use; `Scratch` compares document 02's scratch with document 01's.
pub mod Granted
pub mod Scratch
