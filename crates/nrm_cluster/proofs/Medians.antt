-- The centre of a piece is a best one.
use Rattle.std.proofs.Common.{◌≡◌, ℕ, zero, suc, ◌+◌, ◌*◌, ◌-◌, ◌<◌, ◌≤◌, Bool, true, false, arith, inl, inr, sym, ap, ◌∙◌, length, slice_index, nat_le}
use native.Mathlib.Nat.{mul-le-mul_left}
use Rattle.std.proofs.lemmas.Bool.{cases_lt, leb-true, leb-false, le-leb}
use Rattle.nrm_cluster.specs.Points.{PointsValue, ValuesFall}
use Rattle.nrm_cluster.specs.Divisions.{distance, sum_from, weight_from, cost_at, cost_from, first_within, piece_cost}
use Rattle.nrm_cluster.proofs.Sums.{sum-parts, sum-at-most, sum-with-weight, IsFirstWithin, first-is}

-- ---- one value, as the centre moves by t
-- a farther centre costs at most the move more
moved-away : (w v c m t : ℕ) → distance v m ≤ distance v c + t → w * distance v m ≤ w * distance v c + t * w
moved-away w v c m t h = omega (arith, mul-le-mul_left w h)

moved-toward : (w v c m t : ℕ) → distance v m + t ≤ distance v c → w * distance v m + t * w ≤ w * distance v c
moved-toward w v c m t h = omega (arith, mul-le-mul_left w h)

-- two parts of a piece: one gains what its weight gives, the other loses no more, and weighs no more
balance : (s s' r r' t w w' : ℕ) → s + t * w ≤ r → s' ≤ r' + t * w' → w' ≤ w → s + s' ≤ r + r'
balance s s' r r' t w w' h g few = omega (arith, mul-le-mul_left t few)

pub falls-at : (p : PointsValue) (i j : ℕ) → ValuesFall p → i ≤ j → j < length p.values → slice_index p.values j ≤ slice_index p.values i
falls-at p i j falls h short = elim (cases_lt i j) [
  | inl less ↦ omega (arith, falls i j 0 less short)
  | inr more ↦ let e : i ≡ j = omega arith in let same : slice_index p.values i ≡ slice_index p.values j = ap (slice_index p.values) e in omega arith
]

abbrev pub heavy : PointsValue → ℕ → ℕ → ℕ → Bool
heavy p a n k = nat_le (weight_from p a n) (2 * weight_from p a (k + 1))

-- where the centre of a piece stands: what is before it weighs at most half, and what is up to it at least half
pub record IsMiddle (p : PointsValue) (a n k : ℕ) : Type 0 where
  pub within : k < n
  pub before : 2 * weight_from p a k ≤ weight_from p a n
  pub upto : weight_from p a n ≤ 2 * weight_from p a (k + 1)

pub middle-is : (p : PointsValue) (a n : ℕ) → IsMiddle p a (suc n) (first_within (heavy p a (suc n)) (suc n) 0)
middle-is p a n = go (first_within (heavy p a (suc n)) (suc n) 0) (first-is (heavy p a (suc n)) (suc n) 0)
  where
    whole : ℕ
    whole = weight_from p a (suc n)

    last : n + 1 ≡ suc n
    last = omega arith

    all : heavy p a (suc n) n ≡ true
    all = le-leb (weight_from p a (suc n)) (2 * weight_from p a (n + 1)) (omega (arith, ap (weight_from p a) last))

    go : (k : ℕ) → IsFirstWithin (heavy p a (suc n)) 0 (0 + suc n) k → IsMiddle p a (suc n) k
    go k is = record {
      within = within;
      before = before k is.first;
      upto = leb-true (weight_from p a (suc n)) (2 * weight_from p a (k + 1)) (is.passes (omega (arith, within)));
    }
      where
        within : k < suc n
        within = elim (cases_lt n k) [
          | inl more ↦ let no = is.first n (omega arith) more in let yes = all in absurd (let bad : true ≡ false = sym yes ∙ no in cc)
          | inr less ↦ omega arith
        ]

        before : (k : ℕ) → ((i : ℕ) → 0 ≤ i → i < k → heavy p a (suc n) i ≡ false) → 2 * weight_from p a k ≤ weight_from p a (suc n)
        before zero first = omega arith
        before (suc j) first =
            let light = leb-false (weight_from p a (suc n)) (2 * weight_from p a (j + 1)) (first j (omega arith) (omega arith)) in
            let next : j + 1 ≡ suc j = omega arith in
            omega (arith, ap (weight_from p a) next)

middle-best : (p : PointsValue) (a n k c : ℕ) → ValuesFall p → a + n ≤ length p.values → IsMiddle p a n k → cost_from p (slice_index p.values (a + k)) a n ≤ cost_from p c a n
middle-best p a n k c falls short is = elim (cases_lt c m) [
  | inl low ↦
      omega (
        arith,
        parts-m (k + 1) (omega (arith, is.within)),
        parts-c (k + 1) (omega (arith, is.within)),
        balance (sum_from (cost_at p m) a (k + 1)) (sum_from (cost_at p m) (a + (k + 1)) (n - (k + 1))) (sum_from (cost_at p c) a (k + 1)) (sum_from (cost_at p c) (a + (k + 1)) (n - (k + 1))) (m - c)
            (weight_from p a (k + 1)) (weight_from p (a + (k + 1)) (n - (k + 1)))
            (sum-with-weight (cost_at p m) (cost_at p c) (slice_index p.weights) (m - c) a (k + 1) (λ i l h. moved-toward (weight i) (value i) c m (m - c) (nearer-low i (falls-at p i (a + k) falls (omega arith) (omega (arith, is.within))) low)))
            (sum-at-most (cost_at p m) (cost_at p c) (slice_index p.weights) (m - c) (a + (k + 1)) (n - (k + 1)) (λ i l h. moved-away (weight i) (value i) c m (m - c) (farther-low i low)))
            (omega (arith, is.upto, parts-w (k + 1) (omega (arith, is.within)))),
      )
  | inr high ↦
      omega (
        arith,
        parts-m k (omega (arith, is.within)),
        parts-c k (omega (arith, is.within)),
        balance (sum_from (cost_at p m) (a + k) (n - k)) (sum_from (cost_at p m) a k) (sum_from (cost_at p c) (a + k) (n - k)) (sum_from (cost_at p c) a k) (c - m)
            (weight_from p (a + k) (n - k)) (weight_from p a k)
            (sum-with-weight (cost_at p m) (cost_at p c) (slice_index p.weights) (c - m) (a + k) (n - k) (λ i l h. moved-toward (weight i) (value i) c m (c - m) (nearer-high i (falls-at p (a + k) i falls l (omega (arith, is.within))) high)))
            (sum-at-most (cost_at p m) (cost_at p c) (slice_index p.weights) (c - m) a k (λ i l h. moved-away (weight i) (value i) c m (c - m) (farther-high i high)))
            (omega (arith, is.before, parts-w k (omega (arith, is.within)))),
      )
]
  where
    m : ℕ
    m = slice_index p.values (a + k)

    value : ℕ → ℕ
    value i = slice_index p.values i

    weight : ℕ → ℕ
    weight i = slice_index p.weights i

    parts-m : (t : ℕ) → t ≤ n → cost_from p (slice_index p.values (a + k)) a n ≡ sum_from (cost_at p (slice_index p.values (a + k))) a t + sum_from (cost_at p (slice_index p.values (a + k))) (a + t) (n - t)
    parts-m t h = sum-parts (cost_at p (slice_index p.values (a + k))) a t n h

    parts-c : (t : ℕ) → t ≤ n → cost_from p c a n ≡ sum_from (cost_at p c) a t + sum_from (cost_at p c) (a + t) (n - t)
    parts-c t h = sum-parts (cost_at p c) a t n h

    parts-w : (t : ℕ) → t ≤ n → weight_from p a n ≡ weight_from p a t + weight_from p (a + t) (n - t)
    parts-w t h = sum-parts (slice_index p.weights) a t n h

    nearer-low : (i : ℕ) → m ≤ value i → c < m → distance (value i) m + (m - c) ≤ distance (value i) c
    nearer-low i h low = omega arith

    farther-low : (i : ℕ) → c < m → distance (value i) m ≤ distance (value i) c + (m - c)
    farther-low i low = omega arith

    nearer-high : (i : ℕ) → value i ≤ m → m ≤ c → distance (value i) m + (c - m) ≤ distance (value i) c
    nearer-high i h high = omega arith

    farther-high : (i : ℕ) → m ≤ c → distance (value i) m ≤ distance (value i) c + (c - m)
    farther-high i high = omega arith

pub centre-is-best : (p : PointsValue) (a n centre : ℕ) → ValuesFall p → a + n ≤ length p.values → piece_cost p a n ≤ cost_from p centre a n
centre-is-best p a zero centre falls short = omega arith
centre-is-best p a (suc n) centre falls short = middle-best p a (suc n) (first_within (heavy p a (suc n)) (suc n) 0) centre falls short (middle-is p a n)
