-- Callers cite `Theorems`, to which `Disks` leads up, and of `Tables` the rule of all entries, to which `Outside` does. Below: what the proofs of the
-- functions share.
pub mod Outside
pub mod Disks
pub mod Theorems
pub mod Tables
pub mod Bands
pub mod Neighbours
pub mod Turning
