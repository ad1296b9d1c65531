-- `Column` says how far the nearest copper of a pixel's column is; `Passes` is what the functions promise each other.
pub mod Column
pub mod Passes
