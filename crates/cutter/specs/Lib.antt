-- The cutter: `Kinds` is the two kinds of map that it may stand over, `Lent` what is lent of them, `Directions` the steps of a run, `Gates` where a cutter may
-- stand and what a run meets, `Closest` how near it has been to copper, `Numbers` the directions and engines that numbers name.
pub mod Kinds
pub mod Lent
pub mod Directions
pub mod Gates
pub mod Closest
pub mod Numbers
