-- What the code works out on the way to the exact map: what the columns cost in the envelope of a row, and the vectors to the best columns.
-- Assumes nothing.
use Rattle.std.specs.Prelude.{◌≡◌, Bool, true, cond, ◌&&◌, List, ℕ, zero, suc, ◌+◌, ◌-◌, ◌*◌, ◌<◌, ◌≤◌, eqb, ℤ, pos, nat_abs, ◌-ℤ◌, length, get_or, take, drop}
use Rattle.raster.specs.Pixels.{index, tabulate}
use Rattle.raster.specs.Vector.{mark, is_mark}
use Rattle.raster.specs.Map.{dx_at, dy_at}
use Rattle.envelope.specs.Best.{no_cost, no_site, best_site}
use Rattle.columns.specs.Column.{is_zero}

-- ---- a row, whose first pixel is at base

-- what a column with that way costs: its square, and no site where there is none
abbrev pub way_cost : ℤ → ℕ
way_cost v = cond (is_mark v) no_cost (nat_abs v * nat_abs v)

-- the way of column k, and the costs of all columns
abbrev pub way_at : List ℤ → (base k : ℕ) → ℤ
way_at m base k = get_or m (base + k) (pos 0)

unfoldable pub row_costs : List ℤ → (base w : ℕ) → List ℕ
row_costs m base w = tabulate w (λ k. way_cost (way_at m base k))

-- the costs of the first w columns, whose ways are given
unfoldable pub costs_of : List ℤ → (w : ℕ) → List ℕ
costs_of ways w = tabulate w (λ k. way_cost (get_or ways k (pos 0)))

-- the vector to the column b (`no_site`: none), whose way is v b
abbrev pub across : (b x : ℕ) → ℤ
across b x = cond (eqb b no_site) mark (pos b -ℤ pos x)

abbrev pub site_way : (v : ℕ → ℤ) (b : ℕ) → ℤ
site_way v b = cond (eqb b no_site) mark (v b)

-- the pixels from base + from to base + to − 1 have the vectors to the columns that `best` names, and nothing else changes
pub record Written (base from to : ℕ) (v : ℕ → ℤ) (best : ℕ → ℕ) (before after : List ℤ) : Type 0 where
  pub long : length after ≡ length before
  pub dx : (x : ℕ) → from ≤ x → x < to → dx_at after (base + x) ≡ across (best x) x
  pub dy : (x : ℕ) → from ≤ x → x < to → dy_at after (base + x) ≡ site_way v (best x)
  pub low_kept : (p : ℕ) → p < base + from → (dx_at after p ≡ dx_at before p) × (dy_at after p ≡ dy_at before p)
  pub high_kept : (p : ℕ) → base + to ≤ p → (dx_at after p ≡ dx_at before p) × (dy_at after p ≡ dy_at before p)

-- ---- a row that long runs of copper split into parts

-- the places from lo to hi − 1
abbrev pub part : {A : Type 0} (lo hi : ℕ) → List A → List A
part lo hi s = take (hi - lo) (drop lo s)

-- the n columns from x on are copper: their way is 0
unfoldable pub copper_from : List ℤ → (x n : ℕ) → Bool
copper_from ways x zero = true
copper_from ways x (suc n) = copper_from ways x n && is_zero (get_or ways (x + n) (pos 0))

-- x is the first of eight copper columns, at or after `from`, or the end of the row
pub record CopperRun (ways : List ℤ) (from w x : ℕ) : Type 0 where
  pub after : from ≤ x
  pub on : x ≤ w
  pub room : x < w → x + 8 ≤ w
  pub copper : x < w → copper_from ways x 8 ≡ true

-- all columns from `from` to e − 1 are copper, and there are some where eight of them are
pub record CopperEnd (ways : List ℤ) (from w e : ℕ) : Type 0 where
  pub after : from ≤ e
  pub on : e ≤ w
  pub copper : (k : ℕ) → from ≤ k → k < e → get_or ways k (pos 0) ≡ pos 0
  pub some : from + 8 ≤ w → copper_from ways from 8 ≡ true → from < e

-- the pixels from lo to e − 1 are written, more than the first `done`, and the last is copper where the row goes on
pub record Next (base w lo done : ℕ) (ways : List ℤ) (before : List ℤ) (e : ℕ) (after : List ℤ) : Type 0 where
  pub more : done < e
  pub on : e ≤ w
  pub copper : e < w → get_or ways (e - 1) (pos 0) ≡ pos 0
  pub written : Written base lo e (λ b. get_or ways b (pos 0)) (best_site (costs_of ways w) w) before after

-- ---- all rows

-- every pixel has the vector to the best column of its row
pub record Solved (w h : ℕ) (before after : List ℤ) : Type 0 where
  pub long : length after ≡ length before
  pub dx : (x y : ℕ) → x < w → y < h → dx_at after (index w x y) ≡ across (best_site (row_costs before (y * w) w) w x) x
  pub dy : (x y : ℕ) → x < w → y < h → dy_at after (index w x y) ≡ site_way (way_at before (y * w)) (best_site (row_costs before (y * w) w) w x)
