-- `Theorems` is what callers cite of the exact map, `Search` leads up to it. Below: `Solved`, that the code leaves that map, and what leads up to it; then
-- what the proofs of several functions share.
pub mod Search
pub mod Theorems
pub mod Columns
pub mod Solved
pub mod Runs
pub mod Prices
pub mod Split
pub mod Parts
pub mod Solving
pub mod Scratch
