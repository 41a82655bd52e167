-- What isn't Large in the value row and in the closing bounds every number of the closing's certificate.
use Rattle.std.proofs.Common.{◌≡◌, ℕ, zero, suc, ◌+◌, ◌-◌, ◌<◌, ◌≤◌, ◌⊎◌, inl, inr, ℤ, pos, nat_abs, arith, refl, sym, ap, ap₂, ◌∙◌, subst, List, [], ◌∷◌, ◌++◌, map, length, get_or, All, Bool, true, false, cond, leb, leb-false, Option, Some, None}
use Prim.Native.Nat.{◌∣◌}
use native.Mathlib.Nat.{one-dvd}
use Rattle.std.proofs.lemmas.Bool.{lt-leb}
use Rattle.std.proofs.lemmas.List.{get_or-map, length-map}
use Rattle.std.proofs.lemmas.Nat.Gcd.{dvd_trans, dvd_refl, le_of_dvd}
use Rattle.std.proofs.lemmas.Option.{none-some}
use Rattle.nrm_number.specs.Gcd.{lcm}
use Rattle.nrm_number.proofs.GcdLaws.{dvd-lcm_left, dvd-lcm_right, lcm-dvd, lcm_pos}
use Rattle.nrm_number.proofs.Ring.{solve, ◌⊖◌, v0, v1, v2}
use Rattle.nrm_number.proofs.Ring.Expr.{◌⊕◌, ◌⊗◌, e0, minus}
use Rattle.nrm_fraction.specs.Fraction.{Fraction, ◌*ᶠ◌, ◌-ᶠ◌, negative}
use Rattle.nrm_fraction.specs.Large.{common, running, first_reaching, first_of_two, first_large, large_number}
use Rattle.nrm_lp.specs.Shape.{IsNumber}
use Rattle.nrm_fraction.specs.Rows.{at}
use Rattle.nrm_fraction.proofs.Values.{den_pos}
use Rattle.nrm_fraction.proofs.Field.{ring_F, IsPositive, IsNonNegative, sign_of, non_negative_product, positive_product_F, not_both_positive}
use Rattle.nrm_fraction.proofs.Embed.{W, W-le, W-plus, W-sign, W-positive}
use Rattle.nrm_fraction.proofs.Lowest.{common_pos}

-- ---- no number of a list reaches the limit
pub reach_first : (limit : ℕ) (n : ℤ) (ns : List ℤ) → first_reaching limit (n ∷ ns) ≡ None → (nat_abs n < limit) × (first_reaching limit ns ≡ None)
reach_first limit n ns e = go (leb limit (nat_abs n)) refl e
  where
    go : (b : Bool) → leb limit (nat_abs n) ≡ b → cond b (Some n) (first_reaching limit ns) ≡ None → (nat_abs n < limit) × (first_reaching limit ns ≡ None)
    go true f e = absurd (none-some n (sym e))
    go false f e = (leb-false limit (nat_abs n) f, e)

pub reach_each : (limit : ℕ) (ns : List ℤ) → first_reaching limit ns ≡ None → (k : ℕ) → k < length ns → nat_abs (get_or ns k (pos 0)) < limit
reach_each limit [] e k l = absurd (omega arith)
reach_each limit (n ∷ ns) e zero l = (reach_first limit n ns e).0
reach_each limit (n ∷ ns) e (suc k) l = reach_each limit ns (reach_first limit n ns e).1 k (omega arith)

pub reach_parts : (limit : ℕ) (ms ns : List ℤ) → first_reaching limit (ms ++ ns) ≡ None → (first_reaching limit ms ≡ None) × (first_reaching limit ns ≡ None)
reach_parts limit [] ns e = (refl, e)
reach_parts limit (m ∷ ms) ns e =
    let w : (nat_abs m < limit) × (first_reaching limit (ms ++ ns) ≡ None) = reach_first limit m (ms ++ ns) e in
    let v : (first_reaching limit ms ≡ None) × (first_reaching limit ns ≡ None) = reach_parts limit ms ns w.1 in
    (ap (λ b. cond b (Some m) (first_reaching limit ms)) (lt-leb limit (nat_abs m) w.0) ∙ v.0, v.1)

-- sizes below the limit, as numbers of a certificate
pub each_small : (limit : ℕ) (ns : List ℕ) → ((k : ℕ) → k < length ns → get_or ns k 0 < limit) → All (IsNumber limit) (map (λ n. pos n) ns)
each_small limit ns h = λ k d l.
    let short : k < length ns = omega (arith, l, length-map ns (λ n. pos n)) in
    (get_or ns k 0, get_or-map (λ n. pos n) ns k 0 d short, h k short)

pub sizes_small : (limit : ℕ) (ns : List ℤ) → first_reaching limit ns ≡ None → (k : ℕ) → k < length (map (λ z. nat_abs z) ns) → get_or (map (λ z. nat_abs z) ns) k 0 < limit
sizes_small limit ns e k l =
    let short : k < length ns = omega (arith, l, length-map ns (λ z. nat_abs z)) in
    subst (λ v. v < limit) (sym (get_or-map (λ z. nat_abs z) ns k (pos 0) 0 short)) (reach_each limit ns e k short)

-- ---- the running denominators end in one that all of them divide
pub running_ends : (limit d : ℕ) (xs : List Fraction) → 0 < d → d < limit → first_reaching limit (running d xs) ≡ None → (m : ℕ) × (0 < m) × (m < limit) × (d ∣ m) × (common xs ∣ m)
running_ends limit d [] h l e = (d, h, l, dvd_refl d, one-dvd d)
running_ends limit d (x ∷ xs) h l e =
    let w : (lcm x.den d < limit) × (first_reaching limit (running (lcm x.den d) xs) ≡ None) = reach_first limit (pos (lcm x.den d)) (running (lcm x.den d) xs) e in
    let v : (m : ℕ) × (0 < m) × (m < limit) × (lcm x.den d ∣ m) × (common xs ∣ m) = running_ends limit (lcm x.den d) xs (lcm_pos x.den d (den_pos x) h) w.0 w.1 in
    (v.0, v.1, v.2, dvd_trans d (dvd-lcm_right x.den d) v.3, lcm-dvd x.den (common xs) v.0 (common_pos xs) (dvd_trans x.den (dvd-lcm_left x.den d) v.3) v.4)

pub common_below : (limit : ℕ) (xs : List Fraction) → 1 < limit → first_reaching limit (running 1 xs) ≡ None → common xs < limit
common_below limit xs h e =
    let v : (m : ℕ) × (0 < m) × (m < limit) × (1 ∣ m) × (common xs ∣ m) = running_ends limit 1 xs (omega arith) h e in
    omega (arith, v.2, le_of_dvd v.1 v.4)

-- the least common denominator divides what each denominator divides
pub common_of : (xs : List Fraction) (m : ℕ) → ((k : ℕ) → k < length xs → (at xs k).den ∣ m) → common xs ∣ m
common_of [] m h = one-dvd m
common_of (x ∷ xs) m h =
    lcm-dvd x.den (common xs) m (common_pos xs) (h 0 (omega arith)) (common_of xs m (λ k l. h (suc k) (omega arith)))

-- ---- the value row is among the rows that a pivot makes
first_none : (o l : Option ℤ) → first_of_two o l ≡ None → l ≡ None
first_none None l e = e
first_none (Some n) l e = absurd (none-some n (sym e))

last_none : (limit : ℕ) (rows : List (List Fraction)) (value : List Fraction) → first_large limit (rows ++ value ∷ []) ≡ None → large_number limit value ≡ None
last_none limit [] value e = both_none (large_number limit value) e
  where
    both_none : (o : Option ℤ) → first_of_two o None ≡ None → o ≡ None
    both_none None e = refl
    both_none (Some n) e = absurd (none-some n (sym e))
last_none limit (row ∷ rows) value e = last_none limit rows value (first_none (large_number limit row) (first_large limit (rows ++ value ∷ [])) e)

pub value_row_small : (limit : ℕ) (own value : List Fraction) (rows : List (List Fraction)) → first_large limit (own ∷ (rows ++ value ∷ [])) ≡ None → large_number limit value ≡ None
value_row_small limit own value rows e = last_none limit rows value (first_none (large_number limit own) (first_large limit (rows ++ value ∷ [])) e)

-- ---- a number over a lesser denominator is at most it
pub scaled_le : (d m : ℕ) (y : Fraction) (u k : ℕ) → d ≤ m → IsNonNegative y → W u ≡ W d *ᶠ y → W k ≡ W m *ᶠ y → u ≤ k
scaled_le d m y u k l s e f =
    W-le u k
    (subst IsNonNegative
    (solve ring_F (W d ∷ W (m - d) ∷ y ∷ []) (v1 ⊗ v2) ((v0 ⊕ v1) ⊗ v2 ⊖ v0 ⊗ v2) refl
    ∙ ap₂ (λ b c. b *ᶠ y -ᶠ c) (sym (W-plus d (m - d)) ∙ ap W (whole_part d m l)) (sym e)
    ∙ ap (λ b. b -ᶠ W u) (sym f))
    (non_negative_product (W (m - d)) y (W-sign (m - d)) s))
  where
    whole_part : (d m : ℕ) → d ≤ m → d + (m - d) ≡ m
    whole_part d m l = omega arith

-- a fraction whose product with a positive whole number is a whole number isn't negative
pub not_negative : (y : Fraction) (d n : ℕ) → 1 ≤ d → W n ≡ y *ᶠ W d → IsNonNegative y
not_negative y d n l e = go (sign_of y)
  where
    go : (IsPositive y) ⊎ (IsNonNegative (negative y)) → IsNonNegative y
    go (inl h) = inl h
    go (inr (inl h)) =
        absurd (not_both_positive (negative y *ᶠ W d) (positive_product_F (negative y) (W d) h (W-positive d l))
        (subst IsNonNegative (e ∙ solve ring_F (y ∷ W d ∷ []) (v0 ⊗ v1) (minus (minus v0 ⊗ v1)) refl) (W-sign n)))
    go (inr (inr h)) = inr (solve ring_F (y ∷ []) v0 (minus (minus v0)) refl ∙ ap negative h ∙ solve ring_F [] (minus e0) e0 refl)
