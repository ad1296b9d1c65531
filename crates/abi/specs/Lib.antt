-- `Span`: where a row of the map stands. `Weighted`: when a map of any two weights is written.
pub mod Span
pub mod Weighted
