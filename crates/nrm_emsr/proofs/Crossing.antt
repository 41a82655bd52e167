-- The comparison of two fractions is that of their parts, multiplied across.
use Rattle.std.proofs.Common.{ℕ, ◌≡◌, ◌∙◌, ◌+◌, ◌-◌, ◌*◌, ◌<◌, ◌≤◌, ◌==◌, ◌||◌, not, Bool, true, false, cond, List, [], ◌∷◌, length, get_or, min, map, eq-eqb, slice_index, nat_lt, nat_abs, refl, sym, ap, ap₂, subst, arith, ℤ, pos, negsuc, ◌*ℤ◌, ◌<ℤ◌, int_lt}
use native.Mathlib.Nat.{mul-le-mul_right, mul-pos}
use Rattle.std.proofs.lemmas.Int.{ints}
use Rattle.std.proofs.lemmas.Bool.{eqb-false, le-ltb, ltb-true, or_parts}
use Rattle.nrm_number.proofs.Integers.{ring_ℤ, *ℤ-pos-lt, *ℤ-pos-lt_cancel}
use Rattle.nrm_number.proofs.Ring.{solve, v0, v1, v2}
use Rattle.nrm_number.proofs.Ring.Expr.{◌⊗◌, e1}
use Rattle.nrm_fraction.specs.Fraction.{Fraction, ◌over◌, ◌*ᶠ◌, whole}
use Rattle.nrm_fraction.proofs.Field.{IsValue_whole}
use Rattle.nrm_fraction.proofs.Tests.{less-is}
use Rattle.nrm_fraction.proofs.Values.{IsValue, IsValue_over, IsValue_product, IsValue_turn, same_value}
use Rattle.std.specs.List.{count_by, range_with_len}
use Rattle.std.proofs.lemmas.List.FromFn.{length-map-range_with_len}
use Rattle.std.proofs.lemmas.List.Sums.{sum_by-cons}
use Rattle.nrm_emsr.specs.declared.sums.Mean.{Mean}
use Rattle.nrm_model.specs.Network.{NetworkValue, leg_of}
use Rattle.nrm_lp.specs.declared.certificate.Certificate.{Certificate}
use Rattle.nrm_virtual.specs.Buckets.{bucket_count}
use Rattle.nrm_emsr.specs.Fares.{bucket_fare, mean_fare, weight_of, weighted_fares}
use Rattle.nrm_emsr.specs.Protections.{at_most, demand_above, histories_over, least_from, seats_enough, suffices}
use Rattle.nrm_emsr.specs.Inner.Sums.{AreSumsOf, crosses, fare_by}
use Rattle.nrm_emsr.specs.Inner.Ranked.{greatest_count}
use Rattle.nrm_emsr.proofs.Least.{enough-least}
use Rattle.nrm_emsr.proofs.Places.{lower-fails, number-passes}
use Rattle.nrm_emsr.proofs.Signs.{IsNat, nat-or-not, weighted-nat}

same-test : (a b : Bool) → (a ≡ true → b ≡ true) → (b ≡ true → a ≡ true) → a ≡ b
same-test true true f g = refl
same-test true false f g = sym (f refl)
same-test false true f g = g refl
same-test false false f g = refl

lt-true : (x y : ℤ) → int_lt x y ≡ true → x <ℤ y
lt-true x y h = omega (arith, ints)

lt-if : (x y : ℤ) → x <ℤ y → int_lt x y ≡ true
lt-if x y k = sym (omega (arith, ints, k))

cancelled : (x y : ℤ) (d : ℕ) → 0 < d → int_lt (x *ℤ pos d) (y *ℤ pos d) ≡ int_lt x y
cancelled x y d some =
    same-test (int_lt (x *ℤ pos d) (y *ℤ pos d)) (int_lt x y)
    (λ h. lt-if x y (*ℤ-pos-lt_cancel x y d (lt-true (x *ℤ pos d) (y *ℤ pos d) h)))
    (λ h. lt-if (x *ℤ pos d) (y *ℤ pos d) (*ℤ-pos-lt x y d some (lt-true x y h)))

spread : (x : ℤ) (w d : ℕ) → x *ℤ pos (1 * (w * d)) ≡ (x *ℤ pos w) *ℤ pos d
spread x w d = solve ring_ℤ (x ∷ pos w ∷ pos d ∷ []) (v0 ⊗ (e1 ⊗ (v1 ⊗ v2))) (v0 ⊗ v1 ⊗ v2) refl

pub at_most-crosses : (c n : ℕ) (x y : Fraction) (a b : ℤ) (w v d : ℕ) → 0 < d → IsValue x a (w * d) → IsValue y b (v * d) → at_most c x n y ≡ crosses c a w n b v
at_most-crosses c n x y a b w v d some is next =
    ap not (less-is (whole (pos n) *ᶠ y) (whole (pos c) *ᶠ x) (pos n *ℤ b) (pos c *ℤ a) (1 * (v * d)) (1 * (w * d))
    (IsValue_product (whole (pos n)) y (pos n) b 1 (v * d) (IsValue_whole (pos n)) next)
    (IsValue_product (whole (pos c)) x (pos c) a 1 (w * d) (IsValue_whole (pos c)) is)
    ∙ ap₂ int_lt (spread (pos n *ℤ b) w d) (spread (pos c *ℤ a) v d)
    ∙ cancelled ((pos n *ℤ b) *ℤ pos w) ((pos c *ℤ a) *ℤ pos v) d some)

-- ---- no history at all passes, and below a count that passes each does
lower : (x y : ℕ) (z : ℤ) → x ≤ y → not (int_lt z (pos y)) ≡ true → not (int_lt z (pos x)) ≡ true
lower x y (pos n) few h = grind (arith, few, h)
lower x y (negsuc n) few h = let no : false ≡ true = h in cc

crosses-below : (a next : ℤ) (w n v c e : ℕ) → IsNat a → c ≤ e → crosses e a w n next v ≡ true → crosses c a w n next v ≡ true
crosses-below a next w n v c e (size, is) few h = rw is (lower (c * size * v) (e * size * v) ((pos n *ℤ next) *ℤ pos w) (mul-le-mul_right v (mul-le-mul_right size few)) (rw is at h))

crosses-none : (a next : ℤ) (w n v : ℕ) → IsNat a → IsNat next → crosses 0 a w n next v ≡ true
crosses-none a next w n v (size, is) (other, next-is) = rw (is, next-is) (ap not (le-ltb (n * other * w) (0 * size * v) (omega arith)))

-- ---- the fare of a bucket in its parts
abbrev chosen : Bool → Bool → Bool → ℤ → ℤ → ℕ → ℤ × ℕ
chosen p q r t a w = cond p (cond q (t, 1) (a, w)) (cond r (pos 0, 1) (a, w))

abbrev fare : Bool → Bool → Bool → ℕ → Fraction → Fraction
fare p q r t mean = cond p (cond q (whole (pos t)) mean) (cond r (whole (pos 0)) mean)

parts : (w : ℕ) (a : ℤ) (t d : ℕ) → 0 < d → (p q r : Bool) → (q ≡ false → 0 < w) → (r ≡ false → 0 < w)
    → IsValue (fare p q r t (a over (w * d))) (chosen p q r (pos (t * d)) a w).0 ((chosen p q r (pos (t * d)) a w).1 * d)
parts w a t d some true true r f g = IsValue_turn (whole (pos t)) (pos t) (pos (t * d)) 1 (1 * d) (omega arith) (ap pos (omega arith)) (IsValue_whole (pos t))
parts w a t d some true false r f g = IsValue_over a (w * d) (mul-pos (f refl) some)
parts w a t d some false q true f g = IsValue_turn (whole (pos 0)) (pos 0) (pos 0) 1 (1 * d) (omega arith) (ap pos (omega arith)) (IsValue_whole (pos 0))
parts w a t d some false q false f g = IsValue_over a (w * d) (mul-pos (g refl) some)

chosen-nat : (p q r : Bool) (t : ℕ) (a : ℤ) (w : ℕ) → (p ≡ true → IsNat a) → (r ≡ false → IsNat a) → IsNat (chosen p q r (pos t) a w).0
chosen-nat true true r t a w f g = (t, refl)
chosen-nat true false r t a w f g = f refl
chosen-nat false q true t a w f g = (0, refl)
chosen-nat false q false t a w f g = g refl

not-nought : (w : ℕ) → (w == 0) ≡ false → 0 < w
not-nought w e = omega (arith, eqb-false w 0 e)

module _ (net : NetworkValue) (cert : Certificate) (i k : ℕ) (some : 0 < nat_abs cert.den) where
  abbrev d : ℕ
  d = nat_abs cert.den

  -- the fare of a bucket in its parts
  fare-parts : (b : ℕ) → IsValue (bucket_fare net cert i k b) (fare_by (weighted_fares net cert i k b b) (weight_of net cert i k b b) (leg_of net i).cuts d b).0 ((fare_by (weighted_fares net cert i k b b) (weight_of net cert i k b b) (leg_of net i).cuts d b).1 * d)
  fare-parts b =
      let t : ℕ = slice_index (leg_of net i).cuts (b - 1) in
      let w : ℕ = weight_of net cert i k b b in
      let a : ℤ = weighted_fares net cert i k b b in
      parts w a t d some (nat_lt b (bucket_count net i)) (w == 0) ((w == 0) || int_lt a (pos 0)) (not-nought w) (λ h. not-nought w (or_parts (w == 0) (int_lt a (pos 0)) h).0)

  -- and put together from them
  pub fare-made : (b : ℕ) (own made : Mean) → own.fares ≡ weighted_fares net cert i k b b → own.seats ≡ weight_of net cert i k b b
      → made.fares ≡ (fare_by own.fares own.seats (leg_of net i).cuts d b).0 → made.seats ≡ (fare_by own.fares own.seats (leg_of net i).cuts d b).1 → 1 ≤ made.seats
      → made.fares over (made.seats * d) ≡ bucket_fare net cert i k b
  fare-made b own made own-fares own-seats fares seats positive =
      let fare : ℤ × ℕ = fare_by (weighted_fares net cert i k b b) (weight_of net cert i k b b) (leg_of net i).cuts d b in
      let num : made.fares ≡ fare.0 = fares ∙ (λ s. (fare_by (own-fares s) (own-seats s) (leg_of net i).cuts d b).0) in
      let den : made.seats ≡ fare.1 = seats ∙ (λ s. (fare_by (own-fares s) (own-seats s) (leg_of net i).cuts d b).1) in
      same_value (made.fares over (made.seats * d)) (bucket_fare net cert i k b) made.fares fare.0 (made.seats * d) (fare.1 * d) (IsValue_over made.fares (made.seats * d) (mul-pos positive some)) (fare-parts b)
      (λ s. num s *ℤ pos (sym den s * d))

  -- it isn't negative
  fare-nat : (b : ℕ) → IsNat (fare_by (weighted_fares net cert i k b b) (weight_of net cert i k b b) (leg_of net i).cuts d b).0
  fare-nat b =
      let w : ℕ = weight_of net cert i k b b in
      let a : ℤ = weighted_fares net cert i k b b in
      chosen-nat (nat_lt b (bucket_count net i)) (w == 0) ((w == 0) || int_lt a (pos 0)) (slice_index (leg_of net i).cuts (b - 1) * d) a w
      (λ h. weighted-nat net cert i k b b (ltb-true b (bucket_count net i) h)) (λ h. nat-or-not a (or_parts (w == 0) (int_lt a (pos 0)) h).1)

  over-is : (y : ℕ) (demand : ℕ → ℕ) (hs : List ℕ) → count_by (nat_lt y) (map demand hs) ≡ count_by (λ h. nat_lt y (demand h)) hs
  over-is y demand [] = refl
  over-is y demand (h ∷ hs) =
      sum_by-cons (λ x. cond (nat_lt y x) 1 0) (demand h) (map demand hs)
      ∙ ap (λ t. cond (nat_lt y (demand h)) 1 0 + t) (over-is y demand hs)
      ∙ sym (sum_by-cons (λ x. cond (nat_lt y (demand x)) 1 0) h hs)

  module _ (b : ℕ) (above own : Mean) (ranked : List ℕ) (are : AreSumsOf net cert i k b above own ranked) (positive : 0 < above.seats)
      (next : ℤ) (v : ℕ) (next-is : next ≡ (fare_by own.fares own.seats (leg_of net i).cuts d (b + 1)).0) (v-is : v ≡ (fare_by own.fares own.seats (leg_of net i).cuts d (b + 1)).1) where
    abbrev demands : List ℕ
    demands = map (demand_above net cert i k b) (range_with_len 0 net.histories)

    abbrev next_fare : ℤ × ℕ
    next_fare = fare_by (weighted_fares net cert i k (b + 1) (b + 1)) (weight_of net cert i k (b + 1) (b + 1)) (leg_of net i).cuts d (b + 1)

    next-own : next ≡ next_fare.0
    next-own = next-is ∙ (λ s. (fare_by (are.next_fares s) (are.next_seats s) (leg_of net i).cuts d (b + 1)).0)

    seats-own : v ≡ next_fare.1
    seats-own = v-is ∙ (λ s. (fare_by (are.next_fares s) (are.next_seats s) (leg_of net i).cuts d (b + 1)).1)

    count-is : (y : ℕ) → count_by (nat_lt y) demands ≡ histories_over net cert i k b y
    count-is y = over-is y (demand_above net cert i k b) (range_with_len 0 net.histories)

    long : length demands ≡ net.histories
    long = length-map-range_with_len (demand_above net cert i k b) 0 net.histories

    some-weight : 0 < weight_of net cert i k 1 b
    some-weight = omega (arith, are.seats, positive)

    abbrev test : ℕ → Bool
    test count = crosses count above.fares above.seats (length demands) next v

    pointwise : (y : ℕ) → test (count_by (nat_lt y) demands) ≡ suffices net cert i k b y
    pointwise y =
        (λ s. crosses (count-is y s) (are.fares s) (are.seats s) (long s) (next-own s) (seats-own s))
        ∙ sym (at_most-crosses (histories_over net cert i k b y) net.histories (mean_fare net cert i k 1 b) (bucket_fare net cert i k (b + 1)) (weighted_fares net cert i k 1 b)
        next_fare.0 (weight_of net cert i k 1 b) next_fare.1 d some
        (IsValue_over (weighted_fares net cert i k 1 b) (weight_of net cert i k 1 b * d) (mul-pos some-weight some)) (fare-parts (b + 1)))

    module _ (lower-bucket : b < bucket_count net i) where
      above-nat : IsNat above.fares
      above-nat = subst IsNat (sym are.fares) (weighted-nat net cert i k 1 b lower-bucket)

      next-nat : IsNat next
      next-nat = subst IsNat (sym next-own) (fare-nat (b + 1))

      below : (c e : ℕ) → c ≤ e → test e ≡ true → test c ≡ true
      below c e = crosses-below above.fares next above.seats (length demands) v c e above-nat

      none : test 0 ≡ true
      none = crosses-none above.fares next above.seats (length demands) v above-nat next-nat

      -- the demand at the place of the greatest count that passes is enough, or the authorised seats where they are fewer
      place-is : min (leg_of net i).authorised (get_or ranked (greatest_count test (length demands)) 0) ≡ seats_enough net cert i k b
      place-is =
          sym (enough-least net cert i k b (get_or ranked (greatest_count test (length demands)) 0) some-weight
          (sym (pointwise (get_or ranked (greatest_count test (length demands)) 0)) ∙ number-passes test below none demands ranked are.demands are.falls)
          (λ y under. sym (pointwise y) ∙ lower-fails test below none demands ranked are.demands are.falls y under))

      pub enough-is : min (leg_of net i).authorised (get_or ranked (greatest_count (λ count. crosses count above.fares above.seats net.histories next v) net.histories) 0) ≡ seats_enough net cert i k b
      enough-is = ap (λ (n : ℕ). min (leg_of net i).authorised (get_or ranked (greatest_count (λ count. crosses count above.fares above.seats n next v) n) 0)) (sym long) ∙ place-is

pub none-enough : (net : NetworkValue) (cert : Certificate) (i k b : ℕ) → weight_of net cert i k 1 b ≡ 0 → 0 ≡ seats_enough net cert i k b
none-enough net cert i k b none =
    sym (ap (λ (t : Bool). cond t 0 (least_from (suffices net cert i k b) (leg_of net i).authorised 0)) (eq-eqb (weight_of net cert i k 1 b) 0 none))
