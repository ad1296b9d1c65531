-- `Scan` is document 01's scans, over the candidates of `candidate`. `Rows` is what the functions ask of the row before.
pub mod Scan
pub mod Rows
