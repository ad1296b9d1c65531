-- `Candidate` is document 01's candidate. `OnSheet` is where the vectors of a map end, which the functions of scan require. `Key` is the number by which
-- the code compares, `KeyLaws` what is known of it. `Holding` is what the functions here, and those of scan, ask and promise about the vectors that they carry.
pub mod Candidate
pub mod OnSheet
pub mod Key
pub mod KeyLaws
pub mod Holding
