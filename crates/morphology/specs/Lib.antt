-- `Resize` is the documents' expand and shrink; `Threshold` is what the functions promise each other.
pub mod Resize
pub mod Threshold
