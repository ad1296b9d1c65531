-- `Neighbours`, `OnCopper` and `Held` are what scan cites of a candidate. Below: what the proofs of several functions share.
pub mod Neighbours
pub mod OnCopper
pub mod Held
mod Carried
mod Offer
