-- What the proofs of several functions use: `Sweeps` of the row at hand, `Before` of the row before it, `Scans` of one row of each scan, `Passes` of all rows;
-- `Weights` of the engines' table. `Theorems` is what the engines guarantee.
pub mod Sweeps
pub mod Before
pub mod Scans
pub mod Passes
pub mod Weights
pub mod Theorems
