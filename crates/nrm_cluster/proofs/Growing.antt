-- A piece that grows by the next value: its sums, its middle from one to the next, and its cost by the sums.
use Rattle.std.proofs.Common.{◌≡◌, ℕ, zero, suc, ◌+◌, ◌*◌, ◌-◌, ◌^◌, ◌<◌, ◌≤◌, Bool, true, false, arith, refl, sym, ap, ap₂, subst, ◌∙◌, length, slice_index}
use native.Mathlib.Nat.{mul-le-mul}
use Rattle.std.proofs.lemmas.Bool.{leb-false, le-leb, lt-leb}
use Rattle.nrm_model.specs.declared.limits.TheConstants.{MOST_FARE}
use Rattle.nrm_cluster.specs.declared.limits.TheConstants.{MOST_WEIGHT}
use Rattle.nrm_cluster.specs.declared.pieces.Sum.{Sum}
use Rattle.nrm_cluster.specs.declared.pieces.Middle.{Middle}
use Rattle.nrm_cluster.specs.declared.pieces.Piece.{Piece}
use Rattle.nrm_cluster.specs.Points.{PointsValue, ArePoints}
use Rattle.nrm_cluster.specs.Divisions.{distance, weight_from, cost_at, cost_from, first_within, piece_cost}
use Rattle.nrm_cluster.specs.Inner.Pieces.{AreParts, IsSmallSum, above_centre, cost_by, middle_of, piece_of, sum_of, worth_at, worth_from}
use Rattle.nrm_cluster.proofs.Sums.{sum-parts, IsFirstWithin, first-is}
use Rattle.nrm_cluster.proofs.Medians.{falls-at, heavy, middle-is}
use Rattle.nrm_cluster.proofs.Bounds.{piece-below, value-below, weight-below}

-- ---- sums
pub sum-next : (p : PointsValue) (a n w v : ℕ) (s next : Sum) → s ≡ sum_of p a n → w ≡ slice_index p.weights (a + n) → v ≡ slice_index p.values (a + n)
    → next.weight ≡ s.weight + w → next.worth ≡ s.worth + w * v → next ≡ sum_of p a (n + 1)
sum-next p a n w v s next is at-w at-v weight worth =
    ap₂ (λ x y. record { weight = x; worth = y })
    (weight ∙ ap₂ (λ x y. x + y) (ap (λ (t : Sum). t.weight) is) at-w ∙ ap (weight_from p a) one)
    (worth ∙ ap₂ (λ x y. x + y) (ap (λ (t : Sum). t.worth) is) (ap₂ (λ x y. x * y) at-w at-v) ∙ ap (worth_from p a) one)
  where
    one : suc n ≡ n + 1
    one = omega arith

weights-below : (p : PointsValue) (a n : ℕ) → ArePoints p → weight_from p a n ≤ n * MOST_WEIGHT
weights-below p a zero ok = omega arith
weights-below p a (suc n) ok = omega (arith, weights-below p a n ok, weight-below p (a + n) ok)

worths-below : (p : PointsValue) (a n : ℕ) → ArePoints p → worth_from p a n ≤ n * (MOST_WEIGHT * MOST_FARE)
worths-below p a zero ok = omega arith
worths-below p a (suc n) ok = omega (arith, worths-below p a n ok, mul-le-mul (weight-below p (a + n) ok) (value-below p (a + n) ok))

pub sum-small : (p : PointsValue) (a n : ℕ) (s : Sum) → ArePoints p → a + n ≤ length p.values → s ≡ sum_of p a n → IsSmallSum s
sum-small p a n s ok within is = record {
  weight = omega (arith, weights-below p a n ok, ok.count, ap (λ (t : Sum). t.weight) is);
  worth = omega (arith, worths-below p a n ok, ok.count, ap (λ (t : Sum). t.worth) is);
}

-- ---- the middle
first-here-in : (test : ℕ → Bool) (m k : ℕ) → test k ≡ true → first_within test (suc m) k ≡ k
first-here-in test m k e = rw (e, first_within) refl

first-next-in : (test : ℕ → Bool) (m k : ℕ) → test k ≡ false → first_within test (suc m) k ≡ first_within test m (k + 1)
first-next-in test m k e = rw (e, first_within) refl

first-here : (test : ℕ → Bool) (n k : ℕ) → k < n → test k ≡ true → first_within test (n - k) k ≡ first_within test n 0 → k ≡ first_within test n 0
first-here test n k few e h = sym (ap (λ m. first_within test m k) left ∙ first-here-in test (n - (k + 1)) k e) ∙ h
  where
    left : n - k ≡ suc (n - (k + 1))
    left = omega arith

first-next : (test : ℕ → Bool) (n k : ℕ) → k < n → test k ≡ false → first_within test (n - k) k ≡ first_within test n 0 → first_within test (n - (k + 1)) (k + 1) ≡ first_within test n 0
first-next test n k few e h = sym (ap (λ m. first_within test m k) left ∙ first-next-in test (n - (k + 1)) k e) ∙ h
  where
    left : n - k ≡ suc (n - (k + 1))
    left = omega arith

-- where none of the numbers before k passes, the search may begin at k
first-from : (test : ℕ → Bool) (n k : ℕ) → k ≤ n → ((i : ℕ) → i < k → test i ≡ false) → first_within test (n - k) k ≡ first_within test n 0
first-from test n zero few none = ap (λ m. first_within test m 0) plain
  where
    plain : n - 0 ≡ n
    plain = omega arith
first-from test n (suc k) few none =
    let one : k + 1 ≡ suc k = omega arith in
    subst (λ j. first_within test (n - j) j ≡ first_within test n 0) one
    (first-next test n k (omega arith) (none k (omega arith)) (first-from test n k (omega arith) (λ i less. none i (omega arith))))

-- with one value more half of the weight is reached no earlier
heavy-later : (p : PointsValue) (a n i : ℕ) → heavy p a n i ≡ false → heavy p a (n + 1) i ≡ false
heavy-later p a n i light =
    let one : suc n ≡ n + 1 = omega arith in
    lt-leb (weight_from p a (n + 1)) (2 * weight_from p a (i + 1)) (omega (arith, leb-false (weight_from p a n) (2 * weight_from p a (i + 1)) light, ap (weight_from p a) one))

-- the search for the middle of n values from a on has come to a place
pub record HasCome (p : PointsValue) (a n place : ℕ) (above : Sum) : Type 0 where
  pub from : a ≤ place
  pub within : place < a + n
  pub sum : above ≡ sum_of p a (place - a)
  pub first : first_within (heavy p a n) (n - (place - a)) (place - a) ≡ first_within (heavy p a n) n 0

pub search-starts : (p : PointsValue) (a n : ℕ) (middle : Middle) → middle ≡ middle_of p a n → HasCome p a (n + 1) middle.place middle.above
search-starts p a n middle is = subst (λ (m : Middle). HasCome p a (n + 1) m.place m.above) (sym is) (record {
  from = omega arith;
  within = omega (arith, found.within);
  sum = ap (sum_of p a) (sym back);
  first = subst (λ k. first_within (heavy p a (n + 1)) (n + 1 - k) k ≡ first_within (heavy p a (n + 1)) (n + 1) 0) (sym back)
      (first-from (heavy p a (n + 1)) (n + 1) (above_centre p a n) (omega (arith, found.within)) (λ i less. heavy-later p a n i (found.first i (omega arith) less)));
})
  where
    found : IsFirstWithin (heavy p a n) 0 (0 + n) (first_within (heavy p a n) n 0)
    found = first-is (heavy p a n) n 0

    back : a + above_centre p a n - a ≡ above_centre p a n
    back = omega arith

-- what is up to a place
pub sum-upto : (p : PointsValue) (a n place w v : ℕ) (above upto : Sum) → HasCome p a n place above → w ≡ slice_index p.weights place → v ≡ slice_index p.values place
    → upto.weight ≡ above.weight + w → upto.worth ≡ above.worth + w * v → upto ≡ sum_of p a (place - a + 1)
sum-upto p a n place w v above upto come at-w at-v weight worth =
    let back : place ≡ a + (place - a) = omega (arith, come.from) in
    sum-next p a (place - a) w v above upto come.sum (at-w ∙ ap (slice_index p.weights) back) (at-v ∙ ap (slice_index p.values) back) weight worth

pub search-goes-on : (p : PointsValue) (a n place whole : ℕ) (above upto : Sum) → HasCome p a n place above → place + 1 < a + n → whole ≡ weight_from p a n → upto ≡ sum_of p a (place - a + 1) → 2 * upto.weight < whole
    → HasCome p a n (place + 1) upto
search-goes-on p a n place whole above upto come more all is light = record {
  from = omega (arith, come.from);
  within = more;
  sum = is ∙ ap (sum_of p a) next;
  first = subst (λ k. first_within (heavy p a n) (n - k) k ≡ first_within (heavy p a n) n 0) next
      (first-next (heavy p a n) n (place - a) (omega (arith, come.within, come.from))
      (lt-leb (weight_from p a n) (2 * weight_from p a (place - a + 1)) (omega (arith, ap (λ (t : Sum). t.weight) is))) come.first);
}
  where
    next : place - a + 1 ≡ place + 1 - a
    next = omega (arith, come.from)

pub search-ends : (p : PointsValue) (a n place : ℕ) (above : Sum) → HasCome p a n place above → weight_from p a n ≤ 2 * weight_from p a (place - a + 1) → record { place = place; above = above } ≡ middle_of p a n
search-ends p a n place above come half =
    ap₂ (λ x y. record { place = x; above = y }) (back ∙ ap (λ k. a + k) here) (come.sum ∙ ap (sum_of p a) here)
  where
    here : place - a ≡ above_centre p a n
    here = first-here (heavy p a n) n (place - a) (omega (arith, come.within, come.from)) (le-leb (weight_from p a n) (2 * weight_from p a (place - a + 1)) half) come.first

    back : place ≡ a + (place - a)
    back = omega (arith, come.from)

pub last-is-middle : (p : PointsValue) (a n place : ℕ) (above : Sum) → HasCome p a (n + 1) place above → a + n ≤ place → record { place = place; above = above } ≡ middle_of p a (n + 1)
last-is-middle p a n place above come last =
    let all : place - a + 1 ≡ n + 1 = omega (arith, come.within) in
    search-ends p a (n + 1) place above come (omega (arith, ap (weight_from p a) all))

-- ---- the cost
-- values no lower than a centre cost what they are worth beyond it, and values no higher what they are worth less
dearer-one : (w v c : ℕ) → c ≤ v → w * distance v c + c * w ≡ w * v
dearer-one w v c h =
    let whole : distance v c + c ≡ v = omega arith in
    omega (arith, ap (λ x. w * x) whole)

cheaper-one : (w v c : ℕ) → v ≤ c → w * distance v c + w * v ≡ c * w
cheaper-one w v c h =
    let whole : distance v c + v ≡ c = omega arith in
    omega (arith, ap (λ x. w * x) whole)

dearer-cost : (p : PointsValue) (c a n : ℕ) → ((k : ℕ) → a ≤ k → k < a + n → c ≤ slice_index p.values k) → cost_from p c a n + c * weight_from p a n ≡ worth_from p a n
dearer-cost p c a zero h = omega arith
dearer-cost p c a (suc n) h =
    omega (arith, dearer-cost p c a n (λ k l m. h k l (omega arith)), dearer-one (slice_index p.weights (a + n)) (slice_index p.values (a + n)) c (h (a + n) (omega arith) (omega arith)))

cheaper-cost : (p : PointsValue) (c a n : ℕ) → ((k : ℕ) → a ≤ k → k < a + n → slice_index p.values k ≤ c) → cost_from p c a n + worth_from p a n ≡ c * weight_from p a n
cheaper-cost p c a zero h = omega arith
cheaper-cost p c a (suc n) h =
    omega (arith, cheaper-cost p c a n (λ k l m. h k l (omega arith)), cheaper-one (slice_index p.weights (a + n)) (slice_index p.values (a + n)) c (h (a + n) (omega arith) (omega arith)))

-- the values above a place of a piece are parts of it, and by their sums it costs what it costs
pub record HasParts (p : PointsValue) (a n c : ℕ) (above whole : Sum) : Type 0 where
  pub parts : AreParts c above whole
  pub cost : cost_by c above whole ≡ cost_from p c a n

pub cost-by-sums : (p : PointsValue) (a n m c : ℕ) (above whole : Sum) → ArePoints p → a + n ≤ length p.values → m < n → c ≡ slice_index p.values (a + m) → above ≡ sum_of p a m → whole ≡ sum_of p a n
    → HasParts p a n c above whole
cost-by-sums p a n m c above whole ok within few at is-above is-whole = record {
  parts = record {
    low = omega (arith, at, value-below p (a + m) ok);
    small = sum-small p a n whole ok within is-whole;
    weight = omega (arith, aw, ww);
    worth = omega (arith, ax, wx);
    dearer = omega (arith, above-paid);
    cheaper = omega (arith, rest-paid, rest-weighed, ax, wx);
  };
  cost = omega (arith, above-paid, rest-paid, rest-weighed, ax, wx, sum-parts (cost_at p c) a m n (omega arith));
}
  where
    aw : above.weight ≡ weight_from p a m
    aw = ap (λ (t : Sum). t.weight) is-above

    ax : above.worth ≡ worth_from p a m
    ax = ap (λ (t : Sum). t.worth) is-above

    ww : whole.weight ≡ weight_from p a m + weight_from p (a + m) (n - m)
    ww = ap (λ (t : Sum). t.weight) is-whole ∙ sum-parts (slice_index p.weights) a m n (omega arith)

    wx : whole.worth ≡ worth_from p a m + worth_from p (a + m) (n - m)
    wx = ap (λ (t : Sum). t.worth) is-whole ∙ sum-parts (worth_at p) a m n (omega arith)

    above-paid : cost_from p c a m + c * above.weight ≡ above.worth
    above-paid = ap (λ x. cost_from p c a m + c * x) aw ∙ dearer-cost p c a m (λ k l h. omega (arith, falls-at p k (a + m) ok.falling (omega arith) (omega arith))) ∙ sym ax

    rest-paid : cost_from p c (a + m) (n - m) + worth_from p (a + m) (n - m) ≡ c * weight_from p (a + m) (n - m)
    rest-paid = cheaper-cost p c (a + m) (n - m) (λ k l h. omega (arith, falls-at p (a + m) k ok.falling l (omega arith)))

    left : whole.weight - above.weight ≡ weight_from p (a + m) (n - m)
    left = omega (arith, aw, ww)

    rest-weighed : c * (whole.weight - above.weight) ≡ c * weight_from p (a + m) (n - m)
    rest-weighed = ap (λ x. c * x) left

-- ---- the whole piece
pub centre-within : (p : PointsValue) (a n : ℕ) → 0 < n → above_centre p a n < n
centre-within p a zero some = absurd (omega (arith, some))
centre-within p a (suc n) some = (middle-is p a n).within

pub centre-within-all : (p : PointsValue) (a n : ℕ) (piece : Piece) → 0 < n → a + n ≤ length p.values → piece ≡ piece_of p a n → piece.middle.place < length p.values
centre-within-all p a n piece some within is = omega (arith, ap (λ (q : Piece). q.middle.place) is, centre-within p a n some)

-- what is known of a piece with one value more
pub record HasGrown (p : PointsValue) (a n : ℕ) (whole : Sum) (middle : Middle) : Type 0 where
  pub sum : whole ≡ sum_of p a n
  pub within : middle.place < length p.values
  pub parts : AreParts (slice_index p.values middle.place) middle.above whole
  pub cost : cost_by (slice_index p.values middle.place) middle.above whole ≡ piece_cost p a n
  pub cheap : piece_cost p a n < 2 ^ 58

pub grown : (p : PointsValue) (a n : ℕ) (sum whole : Sum) (middle : Middle) → ArePoints p → a + n < length p.values → sum ≡ sum_of p a n → whole.weight ≡ sum.weight + slice_index p.weights (a + n)
    → whole.worth ≡ sum.worth + slice_index p.weights (a + n) * slice_index p.values (a + n) → middle ≡ middle_of p a (n + 1) → HasGrown p a (n + 1) whole middle
grown p a n sum whole middle ok more is weight worth mid = record {
  sum = all;
  within = omega (arith, place, before, more);
  parts = parts.parts;
  cost = parts.cost ∙ paid;
  cheap = omega (arith, paid, piece-below p (slice_index p.values middle.place) a (n + 1) ok (value-below p middle.place ok), ok.count, more);
}
  where
    all : whole ≡ sum_of p a (n + 1)
    all = sum-next p a n (slice_index p.weights (a + n)) (slice_index p.values (a + n)) sum whole is refl refl weight worth

    place : middle.place ≡ a + above_centre p a (n + 1)
    place = ap (λ (m : Middle). m.place) mid

    before : above_centre p a (n + 1) < n + 1
    before = centre-within p a (n + 1) (omega arith)

    parts : HasParts p a (n + 1) (slice_index p.values middle.place) middle.above whole
    parts = cost-by-sums p a (n + 1) (above_centre p a (n + 1)) (slice_index p.values middle.place) middle.above whole ok (omega (arith, more)) before (ap (slice_index p.values) place) (ap (λ (m : Middle). m.above) mid) all

    paid : cost_from p (slice_index p.values middle.place) a (n + 1) ≡ piece_cost p a (n + 1)
    paid = ap (λ k. cost_from p (slice_index p.values k) a (n + 1)) place

pub piece-grows : (p : PointsValue) (a n : ℕ) (piece next : Piece) → piece ≡ piece_of p a n → next ≡ piece_of p piece.start (piece.count + 1) → next ≡ piece_of p a (n + 1)
piece-grows p a n piece next e grown = grown ∙ ap₂ (λ b m. piece_of p b (m + 1)) (ap (λ (q : Piece). q.start) e) (ap (λ (q : Piece). q.count) e)

pub piece-made : (p : PointsValue) (a n cost : ℕ) (whole : Sum) (middle : Middle) → whole ≡ sum_of p a n → middle ≡ middle_of p a n → cost ≡ piece_cost p a n
    → record { start = a; count = n; whole = whole; middle = middle; cost = cost } ≡ piece_of p a n
piece-made p a n cost whole middle e g paid =
    ap₂ (λ w m. record { start = a; count = n; whole = w; middle = m; cost = cost }) e g
    ∙ ap (λ x. record { start = a; count = n; whole = sum_of p a n; middle = middle_of p a n; cost = x }) paid
