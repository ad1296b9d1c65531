-- What `build` leaves: a stack of entries. Entry j is a site, site[j], and the first place that it holds, start[j]. A place x is held by the last entry
-- whose start is at most x.
-- Assumes nothing.
use Rattle.std.specs.Prelude.{ℕ, zero, suc, ◌<◌, ◌≤◌, ◌≡◌, cond, List, get_or, leb}
use Rattle.envelope.specs.Best.{no_site, Site, best_site}

-- the site that holds x, of the first c entries; `no_site` if none does
unfoldable pub holder : List ℕ → List ℕ → ℕ → ℕ → ℕ
holder site start zero x = no_site
holder site start (suc j) x = cond (leb (get_or start j 0) x) (get_or site j 0) (holder site start j x)

-- the first c entries are sites of the line
pub record Entries (G : List ℕ) (n : ℕ) (site : List ℕ) (c : ℕ) : Type 0 where
  pub few : c ≤ n
  pub seen : (j : ℕ) → j < c → get_or site j 0 < n
  pub real : (j : ℕ) → j < c → Site G (get_or site j 0)

-- the envelope of the line's sites: every place is held by the best of them
pub record Envelope (G : List ℕ) (n : ℕ) (site start : List ℕ) (c : ℕ) : Type 0 where
  pub entries : Entries G n site c
  pub holds : (x : ℕ) → x < n → holder site start c x ≡ best_site G n x
