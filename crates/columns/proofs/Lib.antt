-- Callers cite `Foot` and `Back`, which leads up to it, and of `Numbers` the test for 0. `Numbers`, `Spreading` and `Passes` are what the functions' proofs
-- share.
pub mod Back
pub mod Foot
pub mod Numbers
mod Spreading
mod Passes
