-- The certificate of a full sheet, where the sheet has the shares and bid prices of a certificate in lowest terms, is that certificate.
use Rattle.std.proofs.Common.{◌≡◌, ℕ, suc, ◌*◌, ◌<◌, ◌^◌, ℤ, pos, ◌*ℤ◌, nat_abs, arith, refl, sym, ap, ap₂, ◌∙◌, List, [], ◌∷◌, map, length}
use Rattle.std.proofs.Common.{get_or, All, cond, Option, Some, None, Ok}
use Rattle.std.specs.List.{range_with_len}
use Rattle.std.proofs.lemmas.Bool.{lt-leb}
use Rattle.std.proofs.lemmas.List.{length-map, get_or-map, same_lists}
use Rattle.std.proofs.lemmas.List.Elements.{All-cons, All-head, All-tail}
use Rattle.std.proofs.lemmas.Nat.Gcd.{dvd_antisymm}
use native.Mathlib.Nat.{one-dvd}
use Rattle.std.proofs.lemmas.List.FromFn.{length-map-range_with_len, get_or-map-range_with_len}
use Rattle.nrm_number.specs.Gcd.{gcd}
use Rattle.nrm_number.proofs.GcdLaws.{gcd-dvd_right}
use Rattle.nrm_fraction.specs.Fraction.{◌over◌}
use Rattle.nrm_fraction.specs.Large.{common, numerators, fractions, first_reaching, large_number, gcd_all, size_limit}
use Rattle.nrm_fraction.proofs.Values.{IsValue_over, same_value}
use Rattle.nrm_fraction.proofs.Lowest.{common_is, numerators_are}
use Rattle.nrm_model.specs.Network.{NetworkValue}
use Rattle.nrm_lp.specs.declared.certificate.Certificate.{Certificate}
use Rattle.nrm_lp.specs.Shape.{HasShape, IsNumber}
use Rattle.nrm_lp.proofs.Sizes.{below_limit}
use Rattle.nrm_dual.specs.Reading.{Written, Sheet, first_missing, times, certificate_over, certificate_or_refusal, small_or_refusal}
use Rattle.nrm_dual.specs.Reading.{whole_or_refusal, certificate_on, allocation_in, value_in, prices_in}
use Rattle.nrm_dual.specs.ReadBack.{IsLowest}

-- a fraction that was written for n / d
pub record IsWritten (n : ℤ) (d : ℕ) (w : Written) : Type 0 where
  pub same : w.num * d ≡ nat_abs n * w.den
  pub positive : 0 < w.den

-- n / (d * m) that was written, m times
times_written : (m d : ℕ) (n : ℤ) (k : ℕ) (w : Written) → n ≡ pos k → 0 < d → IsWritten n (d * m) w → times m (Some w) ≡ n over d
times_written m d n k w is some h =
    same_value (pos (m * w.num) over w.den) (n over d) (pos (m * w.num)) n w.den d (IsValue_over (pos (m * w.num)) w.den h.positive) (IsValue_over n d some)
    (ap pos (turn m w.num d ∙ h.same ∙ ap (λ z. nat_abs z * w.den) is) ∙ ap (λ z. z *ℤ pos w.den) (sym is))
  where
    turn : (m a d : ℕ) → m * a * d ≡ a * (d * m)
    turn m a d = omega arith

-- a fraction for each number of a list
given_each : (m d : ℕ) (ns : List ℤ) (w : ℕ → Written) → All (IsNumber size_limit) ns → 0 < d
    → ((j : ℕ) → IsWritten (get_or ns j (pos 0)) (d * m) (w j))
    → map (times m) (map (λ j. Some (w j)) (range_with_len 0 (length ns))) ≡ fractions d ns
given_each m d ns w small some h =
    same_lists (map (times m) given) (fractions d ns)
    (length-map given (times m) ∙ count ∙ sym (length-map ns (λ n. n over d)))
    (λ k e short.
    let few : k < length ns = omega (arith, length-map given (times m), count) in
    let there : k < length given = omega (arith, count) in
    let number : IsNumber size_limit (get_or ns k (pos 0)) = small k (pos 0) few in
    get_or-map (times m) given k None e there
    ∙ ap (times m) (get_or-map-range_with_len (λ j. Some (w j)) 0 (length ns) k k None few (omega arith))
    ∙ times_written m d (get_or ns k (pos 0)) number.0 (w k) number.1 some (h k)
    ∙ sym (get_or-map (λ n. n over d) ns k (pos 0) e few))
  where
    given : List (Option Written)
    given = map (λ j. Some (w j)) (range_with_len 0 (length ns))

    count : length given ≡ length ns
    count = length-map-range_with_len (λ j. Some (w j)) 0 (length ns)

-- nothing is missing where each was given
none_missing : (w : ℕ → Written) (k : ℕ) (js : List ℕ) → first_missing k (map (λ j. Some (w j)) js) ≡ None
none_missing w k [] = refl
none_missing w k (j ∷ js) = none_missing w (suc k) js

-- numbers below the limit don't reach it
one_below : (n : ℤ) (ns : List ℤ) → nat_abs n < 2 ^ 48 → first_reaching size_limit ns ≡ None → first_reaching size_limit (n ∷ ns) ≡ None
one_below n ns l e = ap (λ b. cond b (Some n) (first_reaching size_limit ns)) (lt-leb size_limit (nat_abs n) l) ∙ e

all_below : (ns : List ℤ) → All (IsNumber size_limit) ns → first_reaching size_limit ns ≡ None
all_below [] h = refl
all_below (n ∷ ns) h = one_below n ns (below_limit n (All-head (IsNumber size_limit) n ns h)) (all_below ns (All-tail (IsNumber size_limit) n ns h))

-- a row in lowest terms isn't Large where its numbers are below the limit
row_small : (d : ℕ) (ns : List ℤ) → 0 < d → d < 2 ^ 48 → gcd_all d ns ≡ 1 → All (IsNumber size_limit) ns
    → large_number size_limit (fractions d ns) ≡ None
row_small d ns some l lowest h =
    ap₂ (λ m ms. first_reaching size_limit (pos m ∷ ms)) (common_is d ns some lowest) (ap (λ m. numerators m (fractions d ns)) (common_is d ns some lowest) ∙ numerators_are d ns some)
    ∙ one_below (pos d) ns l (all_below ns h)

row_back : (d : ℕ) (ns : List ℤ) → 0 < d → gcd_all d ns ≡ 1 → numerators (common (fractions d ns)) (fractions d ns) ≡ ns
row_back d ns some lowest = ap (λ m. numerators m (fractions d ns)) (common_is d ns some lowest) ∙ numerators_are d ns some

signless : (n : ℤ) → IsNumber size_limit n → pos (nat_abs n) ≡ n
signless n h = ap (λ z. pos (nat_abs z)) h.1 ∙ sym h.1

-- a sheet with a fraction for each place
abbrev pub full_sheet : NetworkValue → Written → (ℕ → Written) → (ℕ → Written) → Sheet
full_sheet net value shares prices = record {
  value = Some value;
  products = map (λ j. Some (shares j)) (range_with_len 0 (length net.products));
  legs = map (λ i. Some (prices i)) (range_with_len 0 (length net.legs));
}

module _ (net : NetworkValue) (c : Certificate) (shaped : HasShape size_limit (length net.products) (length net.legs) c) (lowest : IsLowest c) where
  both_lowest : gcd_all (nat_abs c.den) (c.value ∷ c.p) ≡ 1
  both_lowest = ap (gcd (nat_abs c.value)) lowest.prices ∙ dvd_antisymm (gcd-dvd_right (nat_abs c.value) 1) (one-dvd (gcd (nat_abs c.value) 1))

  over_back : certificate_over (fractions (nat_abs c.q) c.x) (c.value over nat_abs c.den) (fractions (nat_abs c.den) c.p) ≡ c
  over_back = λ i. record {
    q = (ap pos (common_is (nat_abs c.q) c.x shaped.some_q lowest.allocation) ∙ signless c.q shaped.q_size) i;
    x = row_back (nat_abs c.q) c.x shaped.some_q lowest.allocation i;
    den = (ap pos (common_is (nat_abs c.den) (c.value ∷ c.p) shaped.some_den both_lowest) ∙ signless c.den shaped.den_size) i;
    p = (ap (λ m. numerators m (fractions (nat_abs c.den) c.p)) (common_is (nat_abs c.den) (c.value ∷ c.p) shaped.some_den both_lowest) ∙ numerators_are (nat_abs c.den) c.p shaped.some_den) i;
    value = ap (λ ns. get_or ns 0 (pos 0)) (row_back (nat_abs c.den) (c.value ∷ c.p) shaped.some_den both_lowest) i;
  }

  fractions_back : certificate_or_refusal (fractions (nat_abs c.q) c.x) (c.value over nat_abs c.den) (fractions (nat_abs c.den) c.p) ≡ Ok c
  fractions_back =
      ap₂ (λ a b. small_or_refusal a b (certificate_over (fractions (nat_abs c.q) c.x) (c.value over nat_abs c.den) (fractions (nat_abs c.den) c.p)))
      (row_small (nat_abs c.q) c.x shaped.some_q (below_limit c.q shaped.q_size) lowest.allocation shaped.x_sizes)
      (row_small (nat_abs c.den) (c.value ∷ c.p) shaped.some_den (below_limit c.den shaped.den_size) both_lowest (All-cons (IsNumber size_limit) c.value c.p shaped.value_size shaped.p_sizes))
      ∙ ap Ok over_back

  module _ (value : Written) (shares prices : ℕ → Written)
      (for_value : IsWritten c.value (nat_abs c.den * net.histories) value)
      (for_shares : (j : ℕ) → IsWritten (get_or c.x j (pos 0)) (nat_abs c.q * net.histories) (shares j))
      (for_prices : (i : ℕ) → IsWritten (get_or c.p i (pos 0)) (nat_abs c.den * 1) (prices i)) where
    pub sheet_back : certificate_on net (full_sheet net value shares prices) ≡ Ok c
    sheet_back =
        ap₂ (λ a b. whole_or_refusal (Some value) a b (certificate_or_refusal (allocation_in net sheet) (value_in net sheet) (prices_in sheet)))
        (none_missing shares 0 (range_with_len 0 (length net.products)))
        (none_missing prices 0 (range_with_len 0 (length net.legs)))
        ∙ (λ i. certificate_or_refusal (allocation i) (worth i) (bid_prices i))
        ∙ fractions_back
      where
        sheet : Sheet
        sheet = full_sheet net value shares prices

        allocation : allocation_in net sheet ≡ fractions (nat_abs c.q) c.x
        allocation = ap (λ n. map (times net.histories) (map (λ j. Some (shares j)) (range_with_len 0 n))) (sym shaped.allocation) ∙ given_each net.histories (nat_abs c.q) c.x shares shaped.x_sizes shaped.some_q for_shares

        worth : value_in net sheet ≡ c.value over nat_abs c.den
        worth = times_written net.histories (nat_abs c.den) c.value shaped.value_size.0 value shaped.value_size.1 shaped.some_den for_value

        bid_prices : prices_in sheet ≡ fractions (nat_abs c.den) c.p
        bid_prices = ap (λ n. map (times 1) (map (λ i. Some (prices i)) (range_with_len 0 n))) (sym shaped.prices) ∙ given_each 1 (nat_abs c.den) c.p prices shaped.p_sizes shaped.some_den for_prices
