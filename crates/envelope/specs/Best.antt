-- The lower envelope of unit parabolas along a line: at each place x the site of least cost, among equals the least site. A line's costs are a list
-- G; the place k is a site exactly if its cost is below `no_cost`.
-- Assumes nothing.
use Rattle.std.specs.Prelude.{ℕ, zero, suc, ◌+◌, ◌*◌, ◌<◌, ◌≤◌, cond, List, get_or, length, ltb, eqb}
use Rattle.raster.specs.Distance.{gap}

-- the cost of a place that is no site, and what stands for a site where there is none
abbrev pub no_cost : ℕ
no_cost = 4294967295

abbrev pub no_site : ℕ
no_site = 65535

-- what a site at k with cost g costs at x
unfoldable pub price_of : ℕ → ℕ → ℕ → ℕ
price_of x k g = gap x k * gap x k + g

-- what the place k costs at x
abbrev pub price : List ℕ → ℕ → ℕ → ℕ
price G x k = price_of x k (get_or G k 0)

-- the place k is a site
abbrev pub Site : List ℕ → ℕ → Type 0
Site G k = get_or G k 0 < no_cost

-- of the best so far (`no_site`: none) and the place k, the one to keep at x: k only if it is a site and costs strictly less
unfoldable pub better : List ℕ → ℕ → ℕ → ℕ → ℕ
better G x b k = cond (ltb (get_or G k 0) no_cost) (cond (eqb b no_site) k (cond (ltb (price G x k) (price G x b)) k b)) b

-- the best site at x among the places 0 .. n - 1, in that order; `no_site` if none of them is a site
unfoldable pub best_site : List ℕ → ℕ → ℕ → ℕ
best_site G zero x = no_site
best_site G (suc k) x = better G x (best_site G k x) k

-- what the envelope asks of a line: at most 2048 places, and that many elements in the costs and the two working slices
pub record Line (G : List ℕ) (n : ℕ) (site start : List ℕ) : Type 0 where
  pub short : n ≤ 2048
  pub costs : n ≤ length G
  pub sites : n ≤ length site
  pub starts : n ≤ length start
