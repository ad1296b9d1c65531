-- `storage::is_half_marked` meets its contract: each test of bits is the test of the number (`byte-mark-bits`).
use mathlib.Core.Path.{refl}
use mathlib.Core.Bool.{xor}
use borrow.Author.Rules.{rules}
use mir.Syntax.{w8}
use mir.Val.{SFits}
use Rattle.raster.specs.Map.{dx_at, dy_at}
use Rattle.storage.proofs.Signed.{byte-mark-bits}
use Rattle.storage.proofs.is_half_marked.Goals as goal

pub returns : goal.returns
unfolding xor
returns c =
    let a = c.args in
    let x : SFits w8 (dx_at a.bytes.now a.p) = search rules in
    let y : SFits w8 (dy_at a.bytes.now a.p) = search rules in
    rw (byte-mark-bits _ x, byte-mark-bits _ y) refl
