-- No grouping costs less than some division: each value at the nearest centre, the centres falling.
use Rattle.std.proofs.Common.{◌≡◌, ℕ, zero, suc, ◌+◌, ◌*◌, ◌-◌, ◌<◌, ◌≤◌, Bool, false, arith, inl, inr, refl, ap, subst, List, [], ◌∷◌, length, get_or, map, min, slice_index, nat_lt}
use native.Mathlib.Nat.{mul-le-mul_left}
use Rattle.std.specs.List.{range_with_len}
use Rattle.std.proofs.lemmas.Bool.{cases_lt, ltb-true, ltb-false}
use Rattle.std.proofs.lemmas.List.Sums.{sum_by-cons}
use Rattle.std.proofs.lemmas.List.Elements.{All-cons, All-nil}
use Rattle.std.proofs.lemmas.List.FromFn.{length-map-range_with_len, get_or-map-range_with_len}
use Rattle.nrm_cluster.specs.Points.{PointsValue, ValuesFall}
use Rattle.nrm_cluster.specs.Divisions.{distance, sum_from, cost_at, cost_from, Grouping, IsGrouping, grouping_cost, first_within, piece_cost, IsDivision, division_cost, IsChosen}
use Rattle.nrm_cluster.proofs.Sums.{sum-parts, sum-le, IsFirstWithin, first-is}
use Rattle.nrm_cluster.proofs.Medians.{centre-is-best, falls-at}

-- ---- the distance to the nearest of some centres, c first
abbrev pub nearest : ℕ → ℕ → List ℕ → ℕ
nearest v c [] = distance v c
nearest v c (d ∷ ds) = min (distance v c) (nearest v d ds)

-- no centre of the list is above another
abbrev pub AreBelow : ℕ → List ℕ → Type 0
AreBelow c [] = Unit {0}
AreBelow c (d ∷ ds) = (d ≤ c) × AreBelow d ds

-- a lower value is no nearer to the highest centre than to a lower one, if the higher value wasn't
crossed : (v v' c d : ℕ) → v' ≤ v → d ≤ c → distance v d < distance v c → distance v' d ≤ distance v' c
crossed v v' c d h g far = omega arith

lower-crossed : (v v' c d : ℕ) (ds : List ℕ) → v' ≤ v → d ≤ c → AreBelow d ds → nearest v d ds < distance v c → nearest v' d ds ≤ distance v' c
lower-crossed v v' c d [] h g below far = crossed v v' c d h g far
lower-crossed v v' c d (e ∷ es) h g below far = elim (cases_lt (distance v d) (distance v c)) [
  | inl here ↦ omega (arith, crossed v v' c d h g here)
  | inr there ↦ omega (arith, lower-crossed v v' c e es h (omega (arith, below.0)) below.1 (omega arith))
]

-- ---- a division that costs no more than each value at the nearest of some falling centres
pub record HasDivision (p : PointsValue) (a n pieces bound : ℕ) : Type 0 where
  pub lengths : List ℕ
  pub division : IsDivision n lengths
  pub few : length lengths ≤ pieces
  pub cheap : division_cost p a lengths ≤ bound

abbrev pub at_nearest : PointsValue → ℕ → List ℕ → ℕ → ℕ
at_nearest p c cs k = slice_index p.weights k * nearest (slice_index p.values k) c cs

none-left : (p : PointsValue) (a pieces bound : ℕ) → HasDivision p a 0 pieces bound
none-left p a pieces bound = record { lengths = []; division = record { some = All-nil (λ l. 0 < l); whole = refl }; few = omega arith; cheap = omega arith }

-- one piece before a division
one-before : (p : PointsValue) (a t n pieces first rest : ℕ) → ValuesFall p → 0 < t → t ≤ n → piece_cost p a t ≤ first → HasDivision p (a + t) (n - t) pieces rest → HasDivision p a n (suc pieces) (first + rest)
one-before p a t n pieces first rest falls some within cheap d = record {
  lengths = t ∷ d.lengths;
  division = record {
    some = All-cons (λ l. 0 < l) t d.lengths some d.division.some;
    whole = omega (arith, sum_by-cons (λ x. x) t d.lengths, d.division.whole);
  };
  few = omega (arith, d.few);
  cheap = omega (arith, d.cheap);
}

-- one more piece may be used
more-pieces : (p : PointsValue) (a n pieces bound other : ℕ) → bound ≤ other → HasDivision p a n pieces bound → HasDivision p a n (suc pieces) other
more-pieces p a n pieces bound other h d = record { lengths = d.lengths; division = d.division; few = omega (arith, d.few); cheap = omega (arith, d.cheap) }

within-bound : (p : PointsValue) (a n pieces bound other : ℕ) → bound ≤ other → HasDivision p a n pieces bound → HasDivision p a n pieces other
within-bound p a n pieces bound other h d = record { lengths = d.lengths; division = d.division; few = d.few; cheap = omega (arith, d.cheap) }

moved : (p : PointsValue) (a a' n n' pieces bound : ℕ) → a' ≡ a → n' ≡ n → HasDivision p a' n' pieces bound → HasDivision p a n pieces bound
moved p a a' n n' pieces bound e g d = subst (λ b. HasDivision p b n pieces bound) e (subst (λ m. HasDivision p a' m pieces bound) g d)

nearest-divides : (p : PointsValue) (a n c : ℕ) (cs : List ℕ) → ValuesFall p → a + n ≤ length p.values → AreBelow c cs → HasDivision p a n (suc (length cs)) (sum_from (at_nearest p c cs) a n)
nearest-divides p a zero c [] falls short below = none-left p a 1 0
nearest-divides p a (suc n) c [] falls short below =
    let last = none-left p (a + suc n) 0 0 in
    let rest : HasDivision p (a + suc n) (suc n - suc n) 0 0 = subst (λ m. HasDivision p (a + suc n) m 0 0) nothing last in
    let whole = one-before p a (suc n) (suc n) 0 (cost_from p c a (suc n)) 0 falls (omega arith) (omega arith) (centre-is-best p a (suc n) c falls short) rest in
    subst (λ b. HasDivision p a (suc n) 1 b) (plain (cost_from p c a (suc n))) whole
  where
    nothing : 0 ≡ suc n - suc n
    nothing = omega arith

    plain : (x : ℕ) → x + 0 ≡ x
    plain x = omega arith
nearest-divides p a n c (d ∷ ds) falls short below =
    go (first_within far n 0) (first-is far n 0) (λ t within. nearest-divides p (a + t) (n - t) d ds falls (omega arith) below.1)
  where
    value : ℕ → ℕ
    value k = slice_index p.values k

    far : ℕ → Bool
    far k = nat_lt (nearest (slice_index p.values (a + k)) d ds) (distance (slice_index p.values (a + k)) c)

    near-here : (v : ℕ) → nat_lt (nearest v d ds) (distance v c) ≡ false → distance v c ≤ nearest v c (d ∷ ds)
    near-here v e = let h = ltb-false (nearest v d ds) (distance v c) e in omega arith

    go : (t : ℕ) → IsFirstWithin far 0 (0 + n) t → ((t : ℕ) → t ≤ n → HasDivision p (a + t) (n - t) (suc (length ds)) (sum_from (at_nearest p d ds) (a + t) (n - t)))
        → HasDivision p a n (suc (suc (length ds))) (sum_from (at_nearest p c (d ∷ ds)) a n)
    go t is rest = split t is (rest t (omega (arith, is.within)))
      where
        whole : (t : ℕ) → t ≤ n → sum_from (at_nearest p c (d ∷ ds)) a n ≡ sum_from (at_nearest p c (d ∷ ds)) a t + sum_from (at_nearest p c (d ∷ ds)) (a + t) (n - t)
        whole t h = sum-parts (at_nearest p c (d ∷ ds)) a t n h

        back : (a k : ℕ) → a ≤ k → a + (k - a) ≡ k
        back a k h = omega arith

        -- before t the first centre is the nearest
        before : (t : ℕ) → IsFirstWithin far 0 (0 + n) t → cost_from p c a t ≤ sum_from (at_nearest p c (d ∷ ds)) a t
        before t is = sum-le (cost_at p c) (at_nearest p c (d ∷ ds)) a t (λ k l h.
            let here : nat_lt (nearest (slice_index p.values k) d ds) (distance (slice_index p.values k) c) ≡ false =
            subst (λ i. nat_lt (nearest (slice_index p.values i) d ds) (distance (slice_index p.values i) c) ≡ false) (back a k l) (is.first (k - a) (omega arith) (omega arith)) in
            mul-le-mul_left (slice_index p.weights k) (near-here (slice_index p.values k) here))

        -- and from t on it isn't
        after : (t : ℕ) → IsFirstWithin far 0 (0 + n) t → sum_from (at_nearest p d ds) (a + t) (n - t) ≤ sum_from (at_nearest p c (d ∷ ds)) (a + t) (n - t)
        after t is = sum-le (at_nearest p d ds) (at_nearest p c (d ∷ ds)) (a + t) (n - t) (λ k l h.
            let passes = ltb-true _ _ (is.passes (omega (arith, is.within))) in
            let lower = lower-crossed (slice_index p.values (a + t)) (slice_index p.values k) c d ds (falls-at p (a + t) k falls l (omega arith)) below.0 below.1 passes in
            mul-le-mul_left (slice_index p.weights k) (omega arith))

        split : (t : ℕ) → IsFirstWithin far 0 (0 + n) t → HasDivision p (a + t) (n - t) (suc (length ds)) (sum_from (at_nearest p d ds) (a + t) (n - t)) → HasDivision p a n (suc (suc (length ds))) (sum_from (at_nearest p c (d ∷ ds)) a n)
        split zero is later =
            more-pieces p a n (suc (length ds)) (sum_from (at_nearest p d ds) (a + 0) (n - 0)) (sum_from (at_nearest p c (d ∷ ds)) a n)
            (omega (arith, after 0 is, whole 0 (omega arith)))
            (moved p a (a + 0) n (n - 0) (suc (length ds)) (sum_from (at_nearest p d ds) (a + 0) (n - 0)) (omega arith) (omega arith) later)
        split (suc t) is later =
            within-bound p a n (suc (suc (length ds))) (cost_from p c a (suc t) + sum_from (at_nearest p d ds) (a + suc t) (n - suc t)) (sum_from (at_nearest p c (d ∷ ds)) a n)
            (omega (arith, before (suc t) is, after (suc t) is, whole (suc t) (omega (arith, is.within))))
            (one-before p a (suc t) n (suc (length ds)) (cost_from p c a (suc t)) (sum_from (at_nearest p d ds) (a + suc t) (n - suc t)) falls (omega arith) (omega (arith, is.within)) (centre-is-best p a (suc t) c falls (omega (arith, is.within))) later)

-- ---- centres in falling order
-- one more centre among falling ones
record HasCentre (x e : ℕ) (es : List ℕ) : Type 0 where
  pub head : ℕ
  pub tail : List ℕ
  pub below : AreBelow head tail
  pub count : length tail ≡ suc (length es)
  pub top : (b : ℕ) → x ≤ b → e ≤ b → head ≤ b
  pub nearer : (v : ℕ) → nearest v head tail ≤ min (distance v x) (nearest v e es)

with-centre : (x e : ℕ) (es : List ℕ) → AreBelow e es → HasCentre x e es
with-centre x e [] below = elim (cases_lt x e) [
  | inl less ↦ record { head = e; tail = x ∷ []; below = (omega arith, tt); count = refl; top = λ b h g. g; nearer = λ v. omega arith }
  | inr more ↦ record { head = x; tail = e ∷ []; below = (more, tt); count = refl; top = λ b h g. h; nearer = λ v. omega arith }
]
with-centre x e (d ∷ ds) below = elim (cases_lt x e) [
  | inl less ↦
      let rest = with-centre x d ds below.1 in
      record {
        head = e;
        tail = rest.head ∷ rest.tail;
        below = (rest.top e (omega arith) below.0, rest.below);
        count = omega (arith, rest.count);
        top = λ b h g. g;
        nearer = λ v. omega (arith, rest.nearer v);
      }
  | inr more ↦ record { head = x; tail = e ∷ d ∷ ds; below = (more, below); count = refl; top = λ b h g. h; nearer = λ v. omega arith }
]

-- any centres, in falling order
record HasSorted (c : ℕ) (cs : List ℕ) : Type 0 where
  pub head : ℕ
  pub tail : List ℕ
  pub below : AreBelow head tail
  pub count : length tail ≡ length cs
  pub nearer : (v : ℕ) → nearest v head tail ≤ nearest v c cs

sorted-centres : (c : ℕ) (cs : List ℕ) → HasSorted c cs
sorted-centres c [] = record { head = c; tail = []; below = tt; count = refl; nearer = λ v. omega arith }
sorted-centres c (d ∷ ds) =
    let rest = sorted-centres d ds in
    let all = with-centre c rest.head rest.tail rest.below in
    record { head = all.head; tail = all.tail; below = all.below; count = omega (arith, all.count, rest.count); nearer = λ v. omega (arith, all.nearer v, rest.nearer v) }

-- ---- groupings
nearest-le : (v c : ℕ) (cs : List ℕ) (k : ℕ) → k < length (c ∷ cs) → nearest v c cs ≤ distance v (get_or (c ∷ cs) k 0)
nearest-le v c [] zero h = omega arith
nearest-le v c [] (suc k) h = absurd (omega arith)
nearest-le v c (d ∷ ds) zero h = omega arith
nearest-le v c (d ∷ ds) (suc k) h = omega (arith, nearest-le v d ds k (omega arith))

grouping-divides : (p : PointsValue) (groups : ℕ) (g : Grouping) → ValuesFall p → IsGrouping p (suc groups) g → HasDivision p 0 (length p.values) (suc groups) (grouping_cost p g)
grouping-divides p groups g falls is =
    let cs : List ℕ = map g.centre (range_with_len 1 groups) in
    let sorted = sorted-centres (g.centre 0) cs in
    let count : suc (length sorted.tail) ≡ suc groups = omega (arith, sorted.count, length-map-range_with_len g.centre 1 groups) in
    let divides = nearest-divides p 0 (length p.values) sorted.head sorted.tail falls (omega arith) sorted.below in
    within-bound p 0 (length p.values) (suc groups) (sum_from (at_nearest p sorted.head sorted.tail) 0 (length p.values)) (grouping_cost p g)
    (sum-le (at_nearest p sorted.head sorted.tail) (λ k. cost_at p (g.centre (g.group k)) k) 0 (length p.values)
    (λ k l h. mul-le-mul_left (slice_index p.weights k) (omega (arith, sorted.nearer (slice_index p.values k), near (slice_index p.values k) (g.group k) (is k (omega arith))))))
    (subst (λ m. HasDivision p 0 (length p.values) m (sum_from (at_nearest p sorted.head sorted.tail) 0 (length p.values))) count divides)
  where
    at : (k : ℕ) → k < suc groups → get_or (g.centre 0 ∷ map g.centre (range_with_len 1 groups)) k 0 ≡ g.centre k
    at zero h = refl
    at (suc k) h = get_or-map-range_with_len g.centre 1 groups k (suc k) 0 (omega arith) (omega arith)

    near : (v k : ℕ) → k < suc groups → nearest v (g.centre 0) (map g.centre (range_with_len 1 groups)) ≤ distance v (g.centre k)
    near v k h =
        let within : k < suc (length (map g.centre (range_with_len 1 groups))) = omega (arith, length-map-range_with_len g.centre 1 groups) in
        omega (arith, nearest-le v (g.centre 0) (map g.centre (range_with_len 1 groups)) k within, ap (distance v) (at k h))

pub no-grouping-costs-less : (p : PointsValue) (groups : ℕ) (lengths : List ℕ) (g : Grouping) → ValuesFall p → IsChosen p groups lengths → IsGrouping p groups g → division_cost p 0 lengths ≤ grouping_cost p g
no-grouping-costs-less p zero lengths g falls chosen is = free lengths chosen.few
  where
    free : (ls : List ℕ) → length ls ≤ 0 → division_cost p 0 ls ≤ grouping_cost p g
    free [] h = omega arith
    free (l ∷ ls) h = absurd (omega arith)
no-grouping-costs-less p (suc groups) lengths g falls chosen is =
    let d = grouping-divides p groups g falls is in
    elim (chosen.best d.lengths d.division d.few) [
      | inl less ↦ omega (arith, d.cheap)
      | inr (same, rest) ↦ omega (arith, d.cheap)
    ]
