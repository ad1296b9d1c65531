use mathlib.Core.Path.{ap, ◌∙◌}
use mathlib.Core.List.{List}
use native.Mathlib.Omega.{arith}
use lib.IntN.{ℤ}
use Rattle.raster.specs.Loop.{ascend, descend}
use Rattle.scan.specs.Scan.{down_row, up_row, scanned}
use Rattle.scan.proofs.Seeds.{seeds_rows}
use Rattle.scan.proofs.scan_by.Goals as goal

pub scan_down-requires : goal.scan_down-requires
scan_down-requires g c =
    let r = c.requires in
    seeds_rows c.args.w c.args.h c.args.sheet.now r.sheet_len.0 r.w_nonzero.0 r.w_nonzero.1.0 r.w_nonzero.1.1 (omega arith) c.write_seeds.ensures

pub returns : goal.returns
unfolding scanned
returns g c =
    let a = c.args in
    let corners = g.E.Neighbours.corners in
    c.scan_up.ensures
    ∙ ap (descend (up_row a.w corners a.h) a.h) (c.scan_down.ensures.written ∙ ap (λ (m : List ℤ). ascend (down_row a.w corners) a.h m) c.write_seeds.ensures)
