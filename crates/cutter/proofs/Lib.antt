-- What the proofs of several functions use: `Lengths` of the two kinds of map, `Signs` on a line, `Walk` on the sheet.
pub mod Lengths
pub mod Signs
pub mod Walk
