-- What the functions that build the envelope say of their stack while they work. At x the site k costs x² − 2xk more than the height of its point;
-- so the sites that are best somewhere are corners of the lower convex hull of the points, and the stack holds these from the left.
-- Assumes nothing.
use Rattle.std.specs.Prelude.{ℕ, suc, ◌+◌, ◌-◌, ◌*◌, ◌/◌, ◌<◌, ◌≤◌, ◌≡◌, ◌⊎◌, Bool, false, List, get_or, leb}
use Rattle.envelope.specs.Best.{no_cost, no_site, Site, best_site}

-- the point of the place k stands at k, so high
unfoldable pub height_of : List ℕ → ℕ → ℕ
height_of G k = k * k + get_or G k 0

-- of three places from the left, the point of b lies on or above the line through those of a and k
unfoldable pub above_chord : List ℕ → (a b k : ℕ) → Bool
above_chord G a b k = leb (height_of G k * (b - a) + height_of G a * (k - b)) (height_of G b * (k - a))

-- the first place where the later site k costs less than s, whose point is no higher
unfoldable pub crossing : List ℕ → (s k : ℕ) → ℕ
crossing G s k = (height_of G k - height_of G s) / (2 * (k - s)) + 1

-- no place from `from` to `to` − 1 is a site
pub record Bare (G : List ℕ) (from to : ℕ) : Type 0 where
  pub none : (k : ℕ) → from ≤ k → k < to → no_cost ≤ get_or G k 0

-- b is one of the first c entries
pub record Among (site : List ℕ) (c b : ℕ) : Type 0 where
  pub entry : ℕ
  pub below : entry < c
  pub is : b ≡ get_or site entry 0

-- the first c entries are the hull of the sites below k: sites from the left, no lower than the one before and each strictly below the line through its
-- neighbours; and wherever there is a best site, it is one of them
pub record Hull (G : List ℕ) (k : ℕ) (site : List ℕ) (c : ℕ) : Type 0 where
  pub few : c ≤ k
  pub seen : (j : ℕ) → j < c → get_or site j 0 < k
  pub real : (j : ℕ) → j < c → Site G (get_or site j 0)
  pub rising : (j : ℕ) → suc j < c → get_or site j 0 < get_or site (suc j) 0
  pub upward : (j : ℕ) → suc j < c → height_of G (get_or site j 0) ≤ height_of G (get_or site (suc j) 0)
  pub convex : (j : ℕ) → suc (suc j) < c → above_chord G (get_or site j 0) (get_or site (suc j) 0) (get_or site (suc (suc j)) 0) ≡ false
  pub holds : (x : ℕ) → (best_site G k x ≡ no_site) ⊎ Among site c (best_site G k x)

-- once the site k has come, the best is k or one of the first c entries
abbrev pub Half : List ℕ → (k : ℕ) → List ℕ → (c : ℕ) → Type 0
Half G k site c = (x : ℕ) → (best_site G (k + 1) x ≡ k) ⊎ Among site c (best_site G (k + 1) x)

-- after the entries that are no corners any more are taken off
pub record Popped (G : List ℕ) (k : ℕ) (site : List ℕ) (count c : ℕ) : Type 0 where
  pub fewer : c ≤ count
  pub half : Half G k site c
  pub upward : 0 < c → height_of G (get_or site (c - 1) 0) ≤ height_of G k
  pub convex : 1 < c → above_chord G (get_or site (c - 2) 0) (get_or site (c - 1) 0) k ≡ false

-- the first c of the hull's entries have their starts; the next would start beyond the line
pub record Started (G : List ℕ) (n : ℕ) (site : List ℕ) (count : ℕ) (start : List ℕ) (c : ℕ) : Type 0 where
  pub fewer : c ≤ count
  pub some : 0 < count → 0 < c
  pub first : 0 < c → get_or start 0 0 ≡ 0
  pub next : (j : ℕ) → suc j < c → get_or start (suc j) 0 ≡ crossing G (get_or site j 0) (get_or site (suc j) 0)
  pub beyond : (j : ℕ) → suc j ≡ c → c < count → n ≤ crossing G (get_or site j 0) (get_or site c 0)
