-- What the proofs of the functions share: `Looking`, the copper above and below a row; `Solving`, the row that is worked out from it; `Counting`, the points.
mod Looking
mod Solving
mod Counting
