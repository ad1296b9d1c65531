pub mod Radius
