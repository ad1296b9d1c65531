-- `session::Session::write_map` meets its contract: a session that build is not refused to has what the engines require.
use mathlib.Core.Path.{◌≡◌, refl}
use mathlib.Core.Bool.{false}
use mathlib.Core.List.{List}
use Prim.Native.Nat.{ℕ, ◌*◌, ◌≤◌, ◌<◌}
use lib.IntN.{ℤ}
use lib.ListN.{length}
use borrow.Author.Tests.{ltb-false}
use Rattle.chamfer.specs.Drafts.{engine_of}
use Rattle.cutter.specs.Kinds.{Maps, maps, by_values}
use Rattle.cutter.proofs.Lengths.{draft_values, values_long, pairs-long}
use Rattle.session.specs.declared.Session.{Session}
use Rattle.session.proofs.Granted.{Building, active-limits, build_granted}
use Rattle.session.proofs.Session.write_map.Goals as goal

-- what either scan requires
scannable : {s : Session} {sheet : List ℕ} {m : Maps} {scratch : List ℤ} {e : ℕ} → by_values e ≡ false → Building s sheet m scratch e
    → ((0 < s.width) × ((s.width ≤ 2048) × (s.height ≤ 2048))) × ((length sheet ≡ s.height * s.width) × (length m.pairs ≡ 2 * (s.height * s.width)))
scannable {s} {sheet} {m} {scratch} {e} k g = let l = active-limits s g.open_sheet in ((l.some, (l.wide, l.high)), (g.held, pairs-long e _ m g.mapped k))

pub exact-requires : goal.exact-requires
exact-requires c =
    let a = c.args in
    let g = build_granted a.self _ (maps a.map.now a.values.now) _ 1 refl (rw c.in-Exact.is at c.requires) in
    let limits = active-limits a.self g.open_sheet in record {
      w_bound = (limits.wide, limits.high);
      sheet_len = (g.held, (pairs-long 1 _ (maps a.map.now a.values.now) g.mapped refl, ltb-false _ _ g.spare));
    }

pub scan-requires : goal.scan-requires
scan-requires c = let r = scannable refl (build_granted _ _ _ _ 2 refl (rw c.in-EightSed.is at c.requires)) in record { w_nonzero = r.0; sheet_len = r.1 }

pub scan-requires-in-FourSed : goal.scan-requires-in-FourSed
scan-requires-in-FourSed c = let r = scannable refl (build_granted _ _ _ _ 3 refl (rw c.in-FourSed.is at c.requires)) in record { w_nonzero = r.0; sheet_len = r.1 }

pub chamfer-requires : goal.chamfer-requires
chamfer-requires c =
    let a = c.args in
    let e = engine_of c.in-Draft.draft in
    let g = build_granted a.self _ (maps a.map.now a.values.now) _ e refl (rw c.in-Draft.is at c.requires) in
    record {
      w_bound = (active-limits a.self g.open_sheet).wide;
      sheet_len = (g.held, values_long e _ (maps a.map.now a.values.now) g.mapped (draft_values c.in-Draft.draft));
    }
