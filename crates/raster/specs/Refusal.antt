-- How a call is refused: document 01, the two tables of numbers and the order under them. A call has one list of conditions with their
-- numbers, in the order in which they go; the first that holds gives the answer, and 0 says that none does.
-- Assumes nothing.
use Rattle.std.specs.Prelude.{ℕ, Bool, cond, List, [], ◌∷◌, eqb, Result, Ok, Err}
use Rattle.raster.specs.declared.refusal.Refusal.{Refusal}
use Rattle.raster.specs.declared.refusal.Refusal.TheVariants.{Side, Length, Rectangle, Engine, TooWide, OffSheet, Run, Measure, NotAJob, NotOpen, NotCurrent, CutterUp, LeavesSheet, TooNear, NotExact, NoCopper, FallingRows, NotStorable}

abbrev pub Table : Type 0
Table = List (Bool × ℕ)

unfoldable pub first_of : Table → ℕ
first_of [] = 0
first_of ((when, number) ∷ rest) = cond when number (first_of rest)

-- what a call leaves: done, the new value; refused, the old one
abbrev pub on_done : {A : Type 0} → (answer : ℕ) → A → A → A
on_done a new old = cond (eqb a 0) new old

-- the number of each reason
abbrev pub number_of : Refusal → ℕ
number_of Side = 11
number_of Length = 12
number_of Rectangle = 13
number_of Engine = 14
number_of TooWide = 15
number_of OffSheet = 16
number_of Run = 17
number_of Measure = 18
number_of NotAJob = 19
number_of NotOpen = 30
number_of NotCurrent = 31
number_of CutterUp = 32
number_of LeavesSheet = 33
number_of TooNear = 34
number_of NotExact = 36
number_of NoCopper = 37
number_of FallingRows = 43
number_of NotStorable = 45

-- the number that a call answers with
abbrev pub answer_of : {T : Type 0} → Result T Refusal → ℕ
answer_of (Ok _) = 0
answer_of (Err refusal) = number_of refusal
