pub mod Near
pub mod Rim
pub mod Resized
pub mod Rows
