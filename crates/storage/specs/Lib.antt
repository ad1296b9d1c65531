-- Stored maps: document 02, C-24. `Stored` is what they are and which are refused, `StoredLaws` its laws.
pub mod Stored
pub mod StoredLaws
