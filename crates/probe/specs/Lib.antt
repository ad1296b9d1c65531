-- `Points` is document 02's C-19: the points, and what is answered. `Rows` is what the functions say of the row that is worked out.
pub mod Points
pub mod Rows
