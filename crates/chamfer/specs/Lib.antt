-- Document 02's C-12: `Chamfer` is the map of chamfer distances for any two weights, `Engines` the three engines that use it, with their gates, and
-- `Drafts` their numbers. `Rows` is what the functions say of one row.
pub mod Chamfer
pub mod ChamferLaws
pub mod Drafts
pub mod Engines
pub mod Rows
