-- The laws of squared distance. Every comparison of distances becomes a linear one over products by `gap-square`.
-- Assumes nothing.
use Rattle.std.specs.Prelude.{◌≡◌, Bool, cond, ℕ, ◌+◌, ◌*◌, ◌≤◌, ◌<◌}
use Rattle.std.proofs.Math.Path.{refl, sym}
use Rattle.std.proofs.Common.{ap, ◌∙◌, mul-le-mul, mul-le-mul_left, arith}
use Rattle.std.proofs.Math.Bool.{true, false}
use Rattle.std.proofs.Math.Decide.{dec_le}
use Rattle.raster.specs.Distance.{gap, apart, Copper, Clear, ClearBetween, Near, least_to_copper, no_distance, true_distance}
use Rattle.raster.specs.Limits.{max_side}
use Rattle.raster.specs.Loop.{least_below}
use Rattle.raster.specs.LoopLaws.{least-top, least_under, least_over, least_found}
use Rattle.raster.specs.Pixels.{Mask}

-- the gap of two numbers in order
pub gap_up : (a b : ℕ) → a ≤ b → a + gap a b ≡ b
unfolding gap
gap_up a b h = omega arith

pub gap-swap : (a b : ℕ) → gap a b ≡ gap b a
unfolding gap
gap-swap a b = omega arith

pub gap-self : (a : ℕ) → gap a a ≡ 0
unfolding gap
gap-self a = omega arith

pub gap-zero : (a b : ℕ) → gap a b ≡ 0 → a ≡ b
unfolding gap
gap-zero a b e = omega arith

-- one place nearer, from the left and from the right
pub gap-left : (a b : ℕ) → a < b → gap a b ≡ gap (a + 1) b + 1
unfolding gap
gap-left a b h = omega arith

pub gap-right : (a b : ℕ) → b ≤ a → gap (a + 1) b ≡ gap a b + 1
unfolding gap
gap-right a b h = omega arith

-- the gap of two places of a line is shorter than the line
pub gap_below : (a b n : ℕ) → a < n → b < n → gap a b < n
unfolding gap
gap_below a b n h k = omega arith

-- by way of a third place
pub gap_by_way : (a b c : ℕ) → gap a c ≤ gap a b + gap b c
unfolding gap
gap_by_way a b c = omega arith

-- (a − b)² = a² + b² − 2ab
pub gap-square : (a b : ℕ) → gap a b * gap a b + 2 * (a * b) ≡ a * a + b * b
gap-square a b = elim (dec_le a b) [
  | yes h ↦ up a b h
  | no n ↦ let e = gap-swap a b in rw e (omega (arith, up b a (omega arith)))
]
  where
    up : (a b : ℕ) → a ≤ b → gap a b * gap a b + 2 * (a * b) ≡ a * a + b * b
    up a b h = let e = gap_up a b h in omega (arith, ap (λ (t : ℕ). t * t) e, ap (λ (t : ℕ). a * t) e)

-- squares grow with their roots, and back
pub square_le : {a b : ℕ} → a ≤ b → a * a ≤ b * b
square_le h = mul-le-mul h h

pub root_le : (a b : ℕ) → a * a ≤ b * b → a ≤ b
root_le a b h = elim (dec_le a b) [ yes p ↦ p | no n ↦ absurd (far (omega arith)) ]
  where
    far : b + 1 ≤ a → ⊥
    far q = omega (arith, square_le q)

-- the squared distance of two pixels of a sheet of up to 2,048 × 2,048
pub apart-small : (w h x y i j : ℕ) → w ≤ max_side → h ≤ max_side → x < w → y < h → i < w → j < h → apart x y i j ≤ 8380418
unfolding apart
apart-small w h x y i j wide tall a b c d =
    let k : gap x i ≤ 2047 = omega (arith, gap_below x i w a c) in
    let l : gap y j ≤ 2047 = omega (arith, gap_below y j h b d) in
    omega (arith, square_le k, square_le l)

-- a pixel is at squared distance 0 from itself
pub apart-self : (x y : ℕ) → apart x y x y ≡ 0
unfolding apart
apart-self x y = rw (gap-self x, gap-self y)

pub apart-swap : (x y i j : ℕ) → apart x y i j ≡ apart i j x y
unfolding apart
apart-swap x y i j = rw (gap-swap x i, gap-swap y j)

-- a pixel at squared distance 0 from another is that pixel
pub apart-zero : (x y i j : ℕ) → apart x y i j ≡ 0 → (x ≡ i) × (y ≡ j)
unfolding apart
apart-zero x y i j e =
    let a = root_le (gap x i) 0 (omega arith) in
    let b = root_le (gap y j) 0 (omega arith) in
    (gap-zero x i (omega arith), gap-zero y j (omega arith))

-- ---- between two pixels: document 02, C-20

-- The point that divides the way from p to p' in the ratio m : n, and a pixel c, everything m + n times as large:
-- |(m + n) c − n p − m p'|² + m n |p − p'|² = (m + n) (n |p − c|² + m |p' − c|²). First on a line.
divided_line : (m n x u i : ℕ)
    → gap (n * x + m * u) ((m + n) * i) * gap (n * x + m * u) ((m + n) * i) + m * n * (gap x u * gap x u)
    ≡ (m + n) * (n * (gap x i * gap x i) + m * (gap u i * gap u i))
divided_line m n x u i =
    let e = gap-square (n * x + m * u) ((m + n) * i) in
    go _ (gap x u * gap x u) (gap x i * gap x i) (gap u i * gap u i) (x * x) (u * u) (i * i) (x * u) (x * i) (u * i) (omega arith)
    (gap-square x u) (gap-square x i) (gap-square u i)
  where
    -- linear in the products of the coordinates
    go : (d s a b xx uu ii xu xi ui : ℕ) → d + 2 * ((m + n) * (n * xi + m * ui)) ≡ n * n * xx + m * m * uu + 2 * (m * n * xu) + (m + n) * (m + n) * ii
        → s + 2 * xu ≡ xx + uu → a + 2 * xi ≡ xx + ii → b + 2 * ui ≡ uu + ii → d + m * n * s ≡ (m + n) * (n * a + m * b)
    go d s a b xx uu ii xu xi ui e f g h = omega (
      arith,
      ap (λ (t : ℕ). m * n * t) f,
      ap (λ (t : ℕ). (m + n) * n * t) g,
      ap (λ (t : ℕ). (m + n) * m * t) h,
    )

divided_apart : (m n x y u v i j : ℕ)
    → apart (n * x + m * u) (n * y + m * v) ((m + n) * i) ((m + n) * j) + m * n * apart x y u v ≡ (m + n) * (n * apart x y i j + m * apart u v i j)
unfolding apart
divided_apart m n x y u v i j = omega (arith, divided_line m n x u i, divided_line m n y v j)

-- between two pixels that are clear of copper, at most a diagonal step apart, the way is clear: m n |p − p'|² takes off at most 2 m n, less than (m + n)²
pub clear_between : {copper : Mask} {w h q : ℕ} (x y u v : ℕ) → apart x y u v ≤ 2
    → Clear copper w h x y q → Clear copper w h u v q → ClearBetween copper w h x y u v q
clear_between x y u v step from to m n some i j c =
    omega (
      arith,
      divided_apart m n x y u v i j,
      mul-le-mul_left (m * n) step,
      mul-le-mul_left ((m + n) * n) (from i j c),
      mul-le-mul_left ((m + n) * m) (to i j c),
      squares,
    )
  where
    squares : 1 ≤ m * m + n * n
    squares = elim (dec_le 1 m) [ yes h ↦ omega (arith, square_le h) | no k ↦ let h : 1 ≤ n = omega arith in omega (arith, square_le h) ]

-- ---- the least over all copper

module _ (top : ℕ) (m : Mask) (w h : ℕ) (d : (i j : ℕ) → ℕ) where
  -- what the pixel (i, j) gives, if it is copper
  abbrev given : (i j : ℕ) → ℕ
  given i j = cond (m i j) (d i j) top

  pub to_copper_top : least_to_copper top m w h d ≤ top
  unfolding least_to_copper
  to_copper_top = least-top top h _

  -- no copper pixel gives less, and every number that is not above `top` and what any of them gives is not above the least
  pub to_copper_under : (i j : ℕ) → Copper m w h i j → least_to_copper top m w h d ≤ d i j
  unfolding least_to_copper
  to_copper_under i j c =
      omega (arith, least_under top h (λ r. least_below top w (λ k. given k r)) j c.down, least_under top w (λ k. given k j) i c.across, copper_gives)
    where
      copper_gives : given i j ≡ d i j
      copper_gives = rw c.is_copper

  pub to_copper_over : (k : ℕ) → k ≤ top → ((i j : ℕ) → Copper m w h i j → k ≤ d i j) → k ≤ least_to_copper top m w h d
  unfolding least_to_copper
  to_copper_over k l below = least_over top h _ k l (λ j down. least_over top w _ k l (λ i across. go i j across down (m i j) refl))
    where
      go : (i j : ℕ) → i < w → j < h → (t : Bool) → m i j ≡ t → k ≤ given i j
      go i j across down true e = rw e (below i j (record { across = across; down = down; is_copper = e }))
      go i j across down false e = rw e l

  -- some copper pixel gives the least
  pub record Giver : Type 0 where
    pub column : ℕ
    pub row : ℕ
    pub on_copper : Copper m w h column row
    pub is : least_to_copper top m w h d ≡ d column row

  pub to_copper_giver : least_to_copper top m w h d < top → Giver
  unfolding least_to_copper
  to_copper_giver l =
      let r = least_found top h (λ j. least_below top w (λ i. given i j)) l in
      let s = least_found top w (λ i. given i r.place) (omega (arith, r.least)) in
      go s.place r.place s.below r.below (s.least ∙ r.least) (m s.place r.place) refl
    where
      go : (i j : ℕ) → i < w → j < h → given i j ≡ least_to_copper top m w h d → (t : Bool) → m i j ≡ t → Giver
      go i j across down e true c = record { column = i; row = j; on_copper = record { across = across; down = down; is_copper = c }; is = sym (rw c at e) }
      go i j across down e false c = absurd (omega (arith, rw c at e))

-- ---- the true squared distance as a number: at most q is `Near`, above q is `Clear`, for every q below the number that says that there is no copper

module _ (m : Mask) (w h x y : ℕ) where
  pub distance_under : (i j : ℕ) → Copper m w h i j → true_distance m w h x y ≤ apart x y i j
  unfolding true_distance
  distance_under = to_copper_under no_distance m w h (apart x y)

  -- the distance of the nearest copper pixel
  pub distance_is : (i j : ℕ) → Copper m w h i j → ((a b : ℕ) → Copper m w h a b → apart x y i j ≤ apart x y a b) → apart x y i j ≤ no_distance
      → true_distance m w h x y ≡ apart x y i j
  unfolding true_distance
  distance_is i j c least l = omega (arith, distance_under i j c, to_copper_over no_distance m w h (apart x y) (apart x y i j) l least)

  pub distance_none : ((i j : ℕ) → Copper m w h i j → ⊥) → true_distance m w h x y ≡ no_distance
  unfolding true_distance
  distance_none none =
      let d = apart x y in
      omega (arith, to_copper_top no_distance m w h d, to_copper_over no_distance m w h d no_distance (omega arith) (λ i j c. absurd (none i j c)))

  module _ (q : ℕ) where
    pub near_distance : Near m w h x y q → true_distance m w h x y ≤ q
    near_distance n = omega (arith, distance_under n.column n.row n.copper, n.within)

    pub distance_clear : q < true_distance m w h x y → Clear m w h x y q
    distance_clear l i j c = omega (arith, distance_under i j c)

    module _ (small : q < no_distance) where
      pub distance_near : true_distance m w h x y ≤ q → Near m w h x y q
      unfolding true_distance
      distance_near l =
          let g = to_copper_giver no_distance m w h (apart x y) (omega arith) in
          record { column = g.column; row = g.row; copper = g.on_copper; within = omega (arith, g.is) }

      pub clear_distance : Clear m w h x y q → q < true_distance m w h x y
      unfolding true_distance
      clear_distance clear = omega (arith, to_copper_over no_distance m w h (apart x y) (q + 1) (omega arith) (λ i j c. omega (arith, clear i j c)))
