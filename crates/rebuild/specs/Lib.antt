-- `Rebuild` is document 01's rebuild; `Passes` is what the functions promise each other.
pub mod Rebuild
pub mod Passes
