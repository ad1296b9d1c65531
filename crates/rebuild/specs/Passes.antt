-- What the functions of a pass over the rows promise, on the way to the rebuilt sheet (`rebuilt`): how far each column is covered.
-- Assumes nothing.
use Rattle.std.specs.Prelude.{◌≡◌, Bool, false, cond, ◌||◌, List, ℕ, ◌+◌, ◌-◌, ◌*◌, ◌<◌, ◌≤◌, eqb, ltb, ℤ, length, get_or}
use Rattle.raster.specs.Loop.{any_below}
use Rattle.raster.specs.Map.{size_at, unlabelled_at}
use Rattle.raster.specs.Pixels.{index}
use Rattle.envelope.specs.Best.{no_cost, no_site, Site, price_of}
use Rattle.rebuild.specs.Rebuild.{covers}

-- the t-th row of a pass over h rows, from the bottom up or from the top down
abbrev pub pass_row : (up : Bool) (h t : ℕ) → ℕ
pass_row up h t = cond up (h - 1 - t) t

-- some marked pixel of row j covers (x, y)
unfoldable pub row_covers : (m : List ℤ) (w h : ℕ) (marks : List ℕ) (x y j : ℕ) → Bool
row_covers m w h marks x y j = any_below w (λ i. covers m w h marks x y i j)

-- ---- the costs of a row

-- 2^31 less the size of a marked, labelled pixel; any other pixel is no site
abbrev pub mark_cost : (m : List ℤ) (marks : List ℕ) (p : ℕ) → ℕ
mark_cost m marks p = cond (eqb (get_or marks p 0) 0) no_cost (cond (unlabelled_at m p) no_cost (2147483648 - size_at m p))

-- the costs of the row whose first pixel is at base, and sizes that can be taken from 2^31
pub record Priced (m : List ℤ) (marks : List ℕ) (base w : ℕ) (cost : List ℕ) : Type 0 where
  pub costs : (k : ℕ) → k < w → get_or cost k 0 ≡ mark_cost m marks (base + k)
  pub sizes : (k : ℕ) → k < w → Site cost k → size_at m (base + k) ≤ 2147483648

-- what those costs are: at most 2^31, or that of no site
abbrev pub Costs : List ℕ → ℕ → Type 0
Costs cost n = (k : ℕ) → k < n → Site cost k → get_or cost k 0 ≤ 2147483648

-- ---- how far a column is covered: the rows of the pass before the r-th

-- a site at s of cost g, in the t-th row, covers the pixel x of the k-th
abbrev pub hits : (t x s g k : ℕ) → Bool
hits t x s g k = ltb ((k - t) * (k - t) + price_of x s g) 2147483648

-- the site b covers it; `no_site` covers nothing
abbrev pub hit_by : (cost : List ℕ) (t x b k : ℕ) → Bool
hit_by cost t x b k = cond (eqb b no_site) false (hits t x b (get_or cost b 0) k)

-- from the t-th row of the pass on, a row lies before r exactly if `hit` holds of it or it lies before r₀
pub record Raised (t h : ℕ) (hit : ℕ → Bool) (r₀ r : ℕ) : Type 0 where
  pub says : (k : ℕ) → t ≤ k → k < h → ltb k r ≡ hit k || ltb k r₀

-- every column from `from` to `to` − 1 is so raised, and nothing else changes
pub record RowRaised (t h from to : ℕ) (hit : ℕ → ℕ → Bool) (before after : List ℕ) : Type 0 where
  pub long : length after ≡ length before
  pub here : (x : ℕ) → from ≤ x → x < to → Raised t h (hit x) (get_or before x 0) (get_or after x 0)
  pub low_kept : (x : ℕ) → x < from → get_or after x 0 ≡ get_or before x 0
  pub high_kept : (x : ℕ) → to ≤ x → get_or after x 0 ≡ get_or before x 0

-- ---- a pass: 1 at each pixel that its row or one before it covers, and what was there at the others
pub record Passed (m : List ℤ) (w h : ℕ) (marks : List ℕ) (up : Bool) (before after : List ℕ) : Type 0 where
  pub long : length after ≡ length before
  pub here : (x t : ℕ) → x < w → t < h
      → get_or after (index w x (pass_row up h t)) 0
      ≡ cond (any_below (t + 1) (λ j. row_covers m w h marks x (pass_row up h t) (pass_row up h j))) 1 (get_or before (index w x (pass_row up h t)) 0)
