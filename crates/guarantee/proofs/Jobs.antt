-- Demand 3 of every job: what the guarantee says of every list of calls, it says of the list that a job's records mean.
-- Assumes nothing.
use mathlib.Core.List.{List, []}
use Prim.Native.Nat.{ℕ}
use lib.IntN.{ℤ}
use Rattle.cutter.specs.Kinds.{Maps, maps}
use Rattle.records.specs.declared.Record.{Record}
use Rattle.job.specs.Run.{start_state, calls_of}
use Rattle.guarantee.specs.Board.{blank}
use Rattle.guarantee.specs.Claims.{ClaimsHold}
use Rattle.guarantee.proofs.Theorems.{guarantee}

pub every_job : (os : List Record) (sheet : List ℕ) (m : Maps) (scratch : List ℤ)
    → ClaimsHold (calls_of os (start_state sheet m scratch)) blank (start_state sheet m scratch).world
every_job os sheet m scratch = guarantee (calls_of os (start_state sheet m scratch)) [] (maps [] [])
