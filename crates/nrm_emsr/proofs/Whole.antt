-- The whole demand of the buckets suffices: no history is over it, and the next bucket's fare isn't negative.
use Rattle.std.proofs.Common.{ap, subst, sym, zero-add, ◌∙◌, refl, ℕ, zero, suc, ◌≡◌, ◌≤◌, ◌+◌, ◌-◌, ◌*◌, ◌/◌, ◌==◌, ◌||◌, not, Bool, true, false, List, [], ◌∷◌, sum_by, slice_index, nat_lt, nat_abs, arith, inl, inr, pos, ◌*ℤ◌, int_lt}
use Rattle.std.proofs.lemmas.Bool.{cases_Bool}
use Rattle.std.proofs.lemmas.List.Sums.{sum_by-cons, sum_by-le-sum_by}
use Rattle.std.specs.List.{count_by, range_with_len}
use Rattle.nrm_number.specs.Gcd.{gcd}
use Rattle.nrm_fraction.specs.Fraction.{Fraction, ◌over◌, whole}
use Rattle.nrm_fraction.proofs.Values.{IsValue, IsValue_self}
use Rattle.nrm_model.specs.Network.{NetworkValue, leg_of}
use Rattle.nrm_model.specs.Demand.{demand_to_come}
use Rattle.nrm_lp.specs.declared.certificate.Certificate.{Certificate}
use Rattle.nrm_virtual.specs.Buckets.{bucket_count}
use Rattle.nrm_emsr.specs.Fares.{bucket_fare, mean_fare, products_between, weight_of, weighted_fares}
use Rattle.nrm_emsr.specs.Protections.{at_most, histories_over, suffices}
use Rattle.nrm_emsr.proofs.Crossing.{at_most-crosses}
use Rattle.nrm_emsr.proofs.Signs.{IsNat, counted, nat-or-not, weighted-nat}
use Rattle.nrm_number.proofs.Integers.{nought-*ℤ}

-- a fraction of numbers that aren't negative
over-nat : (n d : ℕ) → IsNat (pos n over d).num
unfolding ◌over◌
over-nat n zero = (0, refl)
over-nat n (suc d) = (n / gcd n (suc d), refl)

whole-nat : (n : ℕ) → IsNat (whole (pos n)).num
unfolding whole
whole-nat n = over-nat n 1

-- nothing is over, so the other side is at least as much
none-over : (x y : Fraction) (n c : ℕ) → y.num ≡ pos c → at_most 0 x n y ≡ true
none-over x y n c is =
    let one : (z : Fraction) → IsValue z z.num (z.den * 1) = λ z. let e : z.den ≡ z.den * 1 = omega arith in subst (λ d. IsValue z z.num d) e (IsValue_self z) in
    let right : (pos 0 *ℤ x.num) *ℤ pos y.den ≡ pos 0 = ap (λ z. z *ℤ pos y.den) (nought-*ℤ x.num) ∙ nought-*ℤ (pos y.den) in
    let least : int_lt (pos (n * c * x.den)) (pos 0) ≡ false = grind arith in
    at_most-crosses 0 n x y x.num y.num x.den y.den 1 (omega arith) (one x) (one y)
    ∙ ap (λ z. not (int_lt ((pos n *ℤ z) *ℤ pos x.den) ((pos 0 *ℤ x.num) *ℤ pos y.den))) is
    ∙ ap (λ z. not (int_lt (pos (n * c * x.den)) z)) right ∙ ap not least

-- no history has more than all histories together
none-counted : (g : ℕ → ℕ → ℕ) (js hs : List ℕ) (w : ℕ) → sum_by (λ j. sum_by (g j) hs) js ≤ w → count_by (λ h. nat_lt w (sum_by (λ j. g j h) js)) hs ≡ 0
none-counted g js [] w few = refl
none-counted g js (h ∷ hs) w few =
    let here : sum_by (λ j. g j h) js ≤ sum_by (λ j. sum_by (g j) (h ∷ hs)) js = sum_by-le-sum_by (λ j. g j h) (λ j. sum_by (g j) (h ∷ hs)) js (λ j. omega (arith, sum_by-cons (g j) h hs)) in
    let rest : sum_by (λ j. sum_by (g j) hs) js ≤ sum_by (λ j. sum_by (g j) (h ∷ hs)) js = sum_by-le-sum_by (λ j. sum_by (g j) hs) (λ j. sum_by (g j) (h ∷ hs)) js (λ j. omega (arith, sum_by-cons (g j) h hs)) in
    let under : nat_lt w (sum_by (λ j. g j h) js) ≡ false = grind (arith, here, few) in
    counted (λ x. nat_lt w (sum_by (λ j. g j x) js)) h hs false under ∙ zero-add (count_by (λ x. nat_lt w (sum_by (λ j. g j x) js)) hs) ∙ none-counted g js hs w (omega (arith, rest, few))

either : (p q : Bool) → (p || q) ≡ false → q ≡ false
either true q h = let no : true ≡ false = h in cc
either false q h = h

module _ (net : NetworkValue) (cert : Certificate) (i k : ℕ) where
  mean-nat : (b : ℕ) → IsNat (weighted_fares net cert i k b b) → IsNat (mean_fare net cert i k b b).num
  mean-nat b (a, is) = let made = over-nat a (weight_of net cert i k b b * nat_abs cert.den) in subst (λ z. IsNat (z over (weight_of net cert i k b b * nat_abs cert.den)).num) (sym is) made

  next-nat : (b : ℕ) → IsNat (bucket_fare net cert i k b).num
  next-nat b =
      elim (cases_Bool (nat_lt b (bucket_count net i))) [
        | inl e ↦ elim (cases_Bool (weight_of net cert i k b b == 0)) [
          | inl f ↦ rw (e, f) (whole-nat (slice_index (leg_of net i).cuts (b - 1)))
          | inr f ↦ rw (e, f) (mean-nat b (weighted-nat net cert i k b b (grind (arith, e))))
        ]
        | inr e ↦ elim (cases_Bool ((weight_of net cert i k b b == 0) || int_lt (weighted_fares net cert i k b b) (pos 0))) [
          | inl f ↦ rw (e, f) (whole-nat 0)
          | inr f ↦ rw (e, f) (mean-nat b (nat-or-not (weighted_fares net cert i k b b) (either (weight_of net cert i k b b == 0) (int_lt (weighted_fares net cert i k b b) (pos 0)) f)))
        ]
      ]

  -- the whole demand of buckets 1 to b suffices
  pub whole-suffices : (b : ℕ) → suffices net cert i k b (weight_of net cert i k 1 b) ≡ true
  whole-suffices b =
      let none : histories_over net cert i k b (weight_of net cert i k 1 b) ≡ 0 =
      none-counted (λ j h. demand_to_come net j h k) (products_between net cert i 1 b) (range_with_len 0 net.histories) (weight_of net cert i k 1 b) (omega arith) in
      let (c, is) = next-nat (b + 1) in
      ap (λ m. at_most m (mean_fare net cert i k 1 b) net.histories (bucket_fare net cert i k (b + 1))) none
      ∙ none-over (mean_fare net cert i k 1 b) (bucket_fare net cert i k (b + 1)) net.histories c is
