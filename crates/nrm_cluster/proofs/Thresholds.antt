-- The thresholds of a division group the values as the division does.
use Rattle.std.proofs.Common.{◌≡◌, ℕ, zero, suc, ◌+◌, ◌-◌, ◌<◌, ◌≤◌, true, false, arith, refl, sym, ap, ap₂, ◌∙◌, List, [], ◌∷◌, length, slice_index, sum, All, nat_lt, cond, count_by, inl, inr}
use Rattle.std.proofs.lemmas.Bool.{cases_lt, lt-ltb, le-ltb}
use Rattle.std.proofs.lemmas.List.Sums.{sum_by-cons, count_by-le-length}
use Rattle.nrm_cluster.specs.Points.{PointsValue, ValuesFall}
use Rattle.nrm_cluster.specs.Divisions.{centre_of, centres_from, cost_at, cost_from, cuts_from, division_cost, piece_number, sum_from}
use Rattle.nrm_cluster.specs.Laws.{ThresholdsGroup}
use Rattle.nrm_cluster.proofs.Sums.{sum-split}
use Rattle.nrm_cluster.proofs.Medians.{falls-at}

sum-same : (f g : ℕ → ℕ) (a n : ℕ) → ((k : ℕ) → a ≤ k → k < a + n → f k ≡ g k) → sum_from f a n ≡ sum_from g a n
sum-same f g a zero h = refl
sum-same f g a (suc n) h = omega (arith, sum-same f g a n (λ k l m. h k l (omega arith)), h (a + n) (omega arith) (omega arith))

-- how many cuts are above a value
abbrev above : PointsValue → List ℕ → ℕ → ℕ
above p cuts k = count_by (λ cut. nat_lt (slice_index p.values k) cut) cuts

above-cons : (p : PointsValue) (x : ℕ) (cuts : List ℕ) (k : ℕ) → above p (x ∷ cuts) k ≡ cond (nat_lt (slice_index p.values k) x) 1 0 + above p cuts k
above-cons p x cuts k = sum_by-cons (λ cut. cond (nat_lt (slice_index p.values k) cut) 1 0) x cuts

cut-here : (p : PointsValue) (x : ℕ) (cuts : List ℕ) (k n : ℕ) → x ≤ slice_index p.values k → above p cuts k ≡ n → above p (x ∷ cuts) k ≡ n
cut-here p x cuts k n low rest =
    let none : cond {A = ℕ} (nat_lt (slice_index p.values k) x) 1 0 ≡ 0 = ap (λ b. cond {A = ℕ} b 1 0) (le-ltb (slice_index p.values k) x low) in
    omega (arith, above-cons p x cuts k, none, rest)

cut-above : (p : PointsValue) (x : ℕ) (cuts : List ℕ) (k : ℕ) → slice_index p.values k < x → above p (x ∷ cuts) k ≡ suc (above p cuts k)
cut-above p x cuts k high =
    let one : cond {A = ℕ} (nat_lt (slice_index p.values k) x) 1 0 ≡ 1 = ap (λ b. cond {A = ℕ} b 1 0) (lt-ltb (slice_index p.values k) x high) in
    omega (arith, above-cons p x cuts k, one)

tail : (l : ℕ) (ls : List ℕ) → All (λ n. 0 < n) (l ∷ ls) → All (λ n. 0 < n) ls
tail l ls some k d short = some (suc k) d (omega (arith, short))

-- no cut behind a place is above a value before it
none-above : (p : PointsValue) (a k : ℕ) (ls : List ℕ) → ValuesFall p → All (λ n. 0 < n) ls → a + sum ls ≤ length p.values → k < a
    → above p (cuts_from p a ls) k ≡ 0
none-above p a k [] falls some short before = refl
none-above p a k (l ∷ []) falls some short before = refl
none-above p a k (l ∷ m ∷ ls) falls some short before =
    let long = sum_by-cons (λ x. x) l (m ∷ ls) in
    let one = some 0 0 (omega arith) in
    cut-here p (slice_index p.values (a + l - 1)) (cuts_from p (a + l) (m ∷ ls)) k 0
    (falls-at p k (a + l - 1) falls (omega (arith, before)) (omega (arith, short, long, one)))
    (none-above p (a + l) k (m ∷ ls) falls (tail l (m ∷ ls) some) (omega (arith, short, long)) (omega (arith, before)))

abbrev priced : PointsValue → List ℕ → List ℕ → ℕ → ℕ
priced p cuts centres k = cost_at p (slice_index centres (above p cuts k)) k

pub thresholds-cost : (p : PointsValue) (a : ℕ) (ls : List ℕ) → ValuesFall p → All (λ n. 0 < n) ls → a + sum ls ≤ length p.values
    → sum_from (priced p (cuts_from p a ls) (centres_from p a ls)) a (sum ls) ≡ division_cost p a ls
thresholds-cost p a [] falls some short = refl
thresholds-cost p a (l ∷ []) falls some short =
    let long = sum_by-cons (λ x. x) l [] in
    let one : sum (l ∷ []) ≡ l = omega (arith, long) in
    ap (sum_from (cost_at p (centre_of p a l)) a) one ∙ omega arith
thresholds-cost p a (l ∷ m ∷ ls) falls some short =
    ap (sum_from f a) long ∙ sum-split f a l (sum (m ∷ ls)) ∙ ap₂ (λ x y. x + y) first (second ∙ thresholds-cost p (a + l) (m ∷ ls) falls (tail l (m ∷ ls) some) (omega (arith, short, long)))
  where
    x : ℕ
    x = slice_index p.values (a + l - 1)

    cuts : List ℕ
    cuts = cuts_from p (a + l) (m ∷ ls)

    centres : List ℕ
    centres = centres_from p (a + l) (m ∷ ls)

    f : ℕ → ℕ
    f = priced p (x ∷ cuts) (centre_of p a l ∷ centres)

    long : sum (l ∷ m ∷ ls) ≡ l + sum (m ∷ ls)
    long = sum_by-cons (λ x. x) l (m ∷ ls)

    one : 0 < l
    one = some 0 0 (omega arith)

    first : sum_from f a l ≡ cost_from p (centre_of p a l) a l
    first = sum-same f (cost_at p (centre_of p a l)) a l (λ k low high.
        ap (λ n. cost_at p (slice_index (centre_of p a l ∷ centres) n) k)
        (cut-here p x cuts k 0 (falls-at p k (a + l - 1) falls (omega (arith, high)) (omega (arith, short, long, one)))
        (none-above p (a + l) k (m ∷ ls) falls (tail l (m ∷ ls) some) (omega (arith, short, long)) high)))

    second : sum_from f (a + l) (sum (m ∷ ls)) ≡ sum_from (priced p cuts centres) (a + l) (sum (m ∷ ls))
    second = sum-same f (priced p cuts centres) (a + l) (sum (m ∷ ls)) (λ k low high.
        ap (λ n. cost_at p (slice_index (centre_of p a l ∷ centres) n) k)
        (cut-above p x cuts k (falls (a + l - 1) k 0 (omega (arith, low, one)) (omega (arith, short, long, high)))))

cuts-short : (p : PointsValue) (a : ℕ) (ls : List ℕ) → 0 < length ls → length (cuts_from p a ls) < length ls
cuts-short p a [] some = absurd (omega (arith, some))
cuts-short p a (l ∷ []) some = omega arith
cuts-short p a (l ∷ m ∷ ls) some = omega (arith, cuts-short p (a + l) (m ∷ ls) (omega arith))

some-piece : (ls : List ℕ) (n k : ℕ) → sum ls ≡ n → k < n → 0 < length ls
some-piece [] n k whole few = absurd (omega (arith, whole, few))
some-piece (l ∷ ls) n k whole few = omega arith

-- as many cuts are above a value as pieces stand before its own
piece-above : (p : PointsValue) (a k : ℕ) (ls : List ℕ) → ValuesFall p → All (λ n. 0 < n) ls → a + sum ls ≤ length p.values → k < sum ls
    → above p (cuts_from p a ls) (a + k) ≡ piece_number ls k
piece-above p a k [] falls some short few = absurd (omega (arith, few))
piece-above p a k (l ∷ []) falls some short few =
    let here : nat_lt k l ≡ true = lt-ltb k l (omega (arith, few, sum_by-cons (λ x. x) l [])) in
    rw here refl
piece-above p a k (l ∷ m ∷ ls) falls some short few =
    let long = sum_by-cons (λ x. x) l (m ∷ ls) in
    let one = some 0 0 (omega arith) in
    let later = tail l (m ∷ ls) some in
    let within : a + l + sum (m ∷ ls) ≤ length p.values = omega (arith, short, long) in
    elim (cases_lt k l) [
      | inl less ↦
          let here : nat_lt k l ≡ true = lt-ltb k l less in
          rw here (cut-here p (slice_index p.values (a + l - 1)) (cuts_from p (a + l) (m ∷ ls)) (a + k) 0 (falls-at p (a + k) (a + l - 1) falls (omega (arith, less)) (omega (arith, short, long, one)))
          (none-above p (a + l) (a + k) (m ∷ ls) falls later within (omega (arith, less))))
      | inr more ↦
          let beyond : nat_lt k l ≡ false = le-ltb k l more in
          let place : a + k ≡ a + l + (k - l) = omega (arith, more) in
          let rest : k - l < sum (m ∷ ls) = omega (arith, few, long, more) in
          rw beyond (cut-above p (slice_index p.values (a + l - 1)) (cuts_from p (a + l) (m ∷ ls)) (a + k) (falls (a + l - 1) (a + k) 0 (omega (arith, more, one)) (omega (arith, short, few)))
          ∙ ap suc (ap (above p (cuts_from p (a + l) (m ∷ ls))) place ∙ piece-above p (a + l) (k - l) (m ∷ ls) falls later within rest))
    ]

pub thresholds-group : ThresholdsGroup
thresholds-group = record {
  pieces = λ p groups lengths falls chosen k few.
      let whole = chosen.division.whole in
      let place : k ≡ 0 + k = omega arith in
      ap (above p (cuts_from p 0 lengths)) place ∙ piece-above p 0 k lengths falls chosen.division.some (omega (arith, whole)) (omega (arith, whole, few));
  grouping = λ p groups lengths chosen k few. omega (
    arith,
    count_by-le-length (λ cut. nat_lt (slice_index p.values k) cut) (cuts_from p 0 lengths),
    cuts-short p 0 lengths (some-piece lengths (length p.values) k chosen.division.whole few),
    chosen.few,
  );
  cost = λ p groups lengths falls chosen.
      ap (sum_from (priced p (cuts_from p 0 lengths) (centres_from p 0 lengths)) 0) (sym chosen.division.whole)
      ∙ thresholds-cost p 0 lengths falls chosen.division.some (omega (arith, chosen.division.whole));
}
