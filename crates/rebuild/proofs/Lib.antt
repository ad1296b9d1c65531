-- What the proofs of the functions share.
pub mod Raising
pub mod Covering
pub mod Passing
