-- `Table` and `Skeleton` are document 01's skeleton; `Bands` is what the functions promise each other.
pub mod Table
pub mod Skeleton
pub mod Bands
