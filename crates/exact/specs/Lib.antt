-- `Nearest` is document 01's exact map; `Rows` is what the functions promise each other.
pub mod Nearest
pub mod Rows
