-- `Theorems` is what callers cite of the scans, and what stands above it leads up to it; `Level`, `Keys`, `Window`, `Fused` and `Sowing` are
-- what the proofs of functions cite.
pub mod Within
pub mod Seeds
pub mod Cost
pub mod Progress
pub mod OnRow
pub mod Sweeps
pub mod Level
pub mod Rows
pub mod Keys
pub mod Window
pub mod Fused
pub mod Passes
pub mod Theorems
pub mod Sowing
