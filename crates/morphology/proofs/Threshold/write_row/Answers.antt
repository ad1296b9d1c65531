-- `morphology::Threshold::write_row` meets its contract: the row is filled, then its inner pixels are written over, where the row is an inner one.
use mathlib.Core.Path.{sym, ◌∙◌}
use Prim.Native.Nat.{ℕ, ◌<◌, ◌+◌, ◌*◌, ◌≤◌}
use native.Mathlib.Nat.{mul-le-mul_right}
use native.Mathlib.Omega.{arith}
use Rattle.raster.proofs.Rows.{row_filled}
use Rattle.morphology.specs.Threshold.{level_at}
use Rattle.morphology.proofs.Rows.{row_run}
use Rattle.morphology.proofs.Threshold.write_row.Goals as goal

-- the row lies on the sheet
on_sheet : (y w h : ℕ) → y < h → y * w + w ≤ h * w
on_sheet y w h l = omega (arith, mul-le-mul_right w l)

pub returns-then-is_inner : goal.returns-then-is_inner
returns-then-is_inner c =
    let y = c.args.y in
    let t = c.args.self in
    rw (sym c.is_inner.ensures ∙ c.if-is_inner.true)
    (row_run (y * t.w) t.w t.within (level_at c.args.map.now t.q t.within) (omega (arith, t.on_sheet))
    (rw c.fill_span.ensures (row_filled _ _ _ c.args.sheet.now (omega (arith, on_sheet y t.w t.h c.requires.row))))
    c.write_run.ensures)

pub returns-else-is_inner : goal.returns-else-is_inner
returns-else-is_inner c =
    let y = c.args.y in
    let t = c.args.self in
    rw (sym c.is_inner.ensures ∙ c.if-is_inner.false, c.fill_span.ensures)
    (row_filled _ _ _ c.args.sheet.now (omega (arith, on_sheet y t.w t.h c.requires.row)))
