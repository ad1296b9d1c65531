-- `Theorems` is the guarantee; what stands above it leads up to it. `Rebuilding` is what skeleton and rebuild guarantee on the exact map, `Storing` that what build
-- leaves can be stored.
pub mod Gates
pub mod Answers
pub mod Sound
pub mod Copper
pub mod Approach
pub mod Invariant
pub mod Steps
pub mod Theorems
pub mod Jobs
pub mod Table
pub mod Rebuilding
pub mod Storing
