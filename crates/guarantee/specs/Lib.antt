-- Demand 3: `Board` is the plain board, `Claims` the claim, `Writes` the claim where something else writes a map. `Table` is M1 to M9 and the boards of document 02.
pub mod Board
pub mod Claims
pub mod Writes
pub mod Table
