-- A last tableau's certificate is made of the parts that are read from it.
use Rattle.std.proofs.Common.{◌≡◌, ℕ, ◌*◌, ◌/◌, ◌<◌, ◌≤◌, ℤ, pos, ◌*ℤ◌, nat_abs, arith, refl, sym, ap, ap₂, ◌∙◌, subst, List, [], ◌∷◌, map, length, get_or, cond, eqb, suc, All, Bool, true, false, None, inl, inr}
use Prim.Native.Nat.{◌∣◌}
use Rattle.std.specs.List.{range_with_len}
use Rattle.std.proofs.Math.Nat.{div-mul_cancel, mul-div_cancel_left}
use Rattle.std.proofs.lemmas.List.{get_or_default, get_or-map, length-map}
use Rattle.std.proofs.lemmas.List.FromFn.{length-range_with_len}
use Rattle.std.proofs.lemmas.Nat.Gcd.{le_of_dvd}
use Rattle.nrm_number.proofs.Ring.{solve, v0, v1, v2}
use Rattle.nrm_number.proofs.Ring.Expr.{◌⊗◌}
use Rattle.nrm_fraction.specs.Fraction.{Fraction, ◌over◌, ◌*ᶠ◌, ◌<ᶠ◌, less, whole}
use Rattle.nrm_fraction.specs.Large.{common, numerators, over_common}
use Rattle.nrm_fraction.specs.Rows.{at}
use Rattle.nrm_fraction.proofs.Field.{ring_F, IsNonNegative, positive_num, <ᶠ_irrefl, <ᶠ_trans}
use Rattle.nrm_fraction.proofs.Embed.{W, W-num, W-same, W-times, den-dvd-common, over_common_at}
use Rattle.nrm_fraction.proofs.Lowest.{common_pos}
use Rattle.nrm_fraction.proofs.Tests.{less_unless}
use Rattle.nrm_lp.specs.Program.{cost}
use Rattle.nrm_lp.specs.Tableau.{entering, product_count, right_side, slack}
use Rattle.nrm_lp.specs.declared.certificate.Certificate.{Certificate}
use Rattle.nrm_lp.specs.Closing.{basic_value, certificate, leg_prices, product_values, value_over}
use Rattle.nrm_lp.proofs.Optimal.{cost_value, ends}
use Rattle.nrm_lp.proofs.Path.{last_signs}
use Rattle.nrm_lp.proofs.Small.{common_of, not_negative}
use Rattle.nrm_lp.proofs.Tables.{made_at}
use Rattle.nrm_tableau.specs.Value.{TableauValue, IsOnPath}
use Rattle.nrm_tableau.proofs.Paths.{kept}
use Rattle.nrm_tableau.proofs.LastRows.{length-numerators, quotient_some}
use Rattle.nrm_fraction.proofs.Sizes.{positive_abs}

-- what isn't negative isn't less than 0
sign_less : (x : Fraction) → IsNonNegative x → less x (whole (pos 0)) ≡ false
sign_less x p = less_unless x (whole (pos 0)) (go p)
  where
    go : IsNonNegative x → x <ᶠ whole (pos 0) → ⊥
    go (inl q) l = <ᶠ_irrefl x (<ᶠ_trans x (whole (pos 0)) x l q)
    go (inr e) l = <ᶠ_irrefl x (subst (λ y. x <ᶠ y) (sym e) l)

-- numbers that aren't negative are their sizes
nought_num : pos (nat_abs (whole (pos 0)).num) ≡ (whole (pos 0)).num
unfolding whole ◌over◌
nought_num = refl

sign_num : (x : Fraction) → IsNonNegative x → pos (nat_abs x.num) ≡ x.num
sign_num x (inl q) = sym (positive_abs x.num (positive_num x q)).0
sign_num x (inr e) = ap (λ y. pos (nat_abs y.num)) e ∙ nought_num ∙ sym (ap (λ y. y.num) e)

natural : (n : ℤ) (k : ℕ) → pos (nat_abs n) ≡ n → pos (nat_abs (n *ℤ pos k)) ≡ n *ℤ pos k
natural n k e = subst (λ m. pos (nat_abs (m *ℤ pos k)) ≡ m *ℤ pos k) e refl

naturals : (d : ℕ) (xs : List Fraction) → ((i : ℕ) → i < length xs → IsNonNegative (at xs i)) → map (λ n. pos n) (map (λ z. nat_abs z) (numerators d xs)) ≡ numerators d xs
naturals d [] h = refl
naturals d (x ∷ xs) h = ap₂ (λ n ns. n ∷ ns) (natural x.num (d / x.den) (sign_num x (h 0 (omega arith)))) (naturals d xs (λ i l. h (suc i) (omega arith)))

-- the value of a product isn't negative where no right side is
basic_sign : (end j : ℕ) (bs : List ℕ) (rows : List (List Fraction)) → ((i : ℕ) → i < length rows → IsNonNegative (at (get_or rows i []) end)) → IsNonNegative (basic_value end j bs rows)
basic_sign end j [] rows h = inr refl
basic_sign end j (b ∷ bs) [] h = inr refl
basic_sign end j (b ∷ bs) (xs ∷ rows) h = go (eqb b j) (h 0 (omega arith)) (basic_sign end j bs rows (λ i l. h (suc i) (omega arith)))
  where
    go : (c : Bool) → IsNonNegative (at xs end) → IsNonNegative (basic_value end j bs rows) → IsNonNegative (cond c (at xs end) (basic_value end j bs rows))
    go true p q = p
    go false p q = q

abbrev certificate_of : ℤ → List ℤ → ℤ → List ℤ → ℤ → Certificate
certificate_of q x den p value = record { q = q; x = x; den = den; p = p; value = value }

module _ (s : TableauValue) (h : IsOnPath s) (last : entering s.table ≡ None) where
  signs : (c : ℕ) → c < right_side s.program → IsNonNegative (at s.table.value c)
  signs = last_signs s.program s.table (kept s h) last

  abbrev D : ℕ
  D = common s.table.value

  abbrev d : ℕ
  d = common (leg_prices s.program s.table)

  abbrev V : Fraction
  V = at s.table.value (right_side s.program)

  abbrev C : ℕ
  C = cost s.program (common (leg_prices s.program s.table)) (over_common (leg_prices s.program s.table))

  divides : common (leg_prices s.program s.table) ∣ common s.table.value
  divides = common_of (leg_prices s.program s.table) (common s.table.value) (λ i l. each i (omega (arith, l, prices_count)))
    where
      prices_count : length (leg_prices s.program s.table) ≡ length s.program.caps
      prices_count = length-map (range_with_len 0 (length s.program.caps)) (λ i. at s.table.value (slack s.program i)) ∙ length-range_with_len 0 (length s.program.caps)

      each : (i : ℕ) → i < length s.program.caps → (at (leg_prices s.program s.table) i).den ∣ common s.table.value
      each i l = subst (λ y. y.den ∣ common s.table.value) (sym (made_at (λ i. at s.table.value (slack s.program i)) (length s.program.caps) i l)) (den-dvd-common s.table.value (slack s.program i) (omega (arith, (kept s h).value_width)) (whole (pos 0)))

  -- the right side of the value row: its number N, and the cost C over d
  cost_is : W C ≡ V *ᶠ W d
  cost_is = cost_value s.program h.limits.products s.table (kept s h) (kept s h).basis_below signs

  end_sign : IsNonNegative V
  end_sign = not_negative V d C (common_pos (leg_prices s.program s.table)) cost_is

  end_within : right_side s.program < length s.table.value
  end_within = omega (arith, (kept s h).value_width)

  abbrev N : ℕ
  N = nat_abs (get_or (numerators (common s.table.value) s.table.value) (right_side s.program) (pos 0))

  number_is : W N ≡ W D *ᶠ V
  number_is =
      ap W (sym (get_or-map (λ z. nat_abs z) (numerators (common s.table.value) s.table.value) (right_side s.program) (pos 0) 0 (omega (arith, end_within, length-numerators (common s.table.value) s.table.value))))
      ∙ over_common_at s.table.value (right_side s.program) end_within end_sign

  times_cost : N ≡ D / d * C
  times_cost =
      W-same N (D / d * C)
      (number_is
      ∙ ap (λ n. W n *ᶠ V) (sym (div-mul_cancel d divides))
      ∙ ap (λ x. x *ᶠ V) (W-times (D / d) d)
      ∙ solve ring_F (W (D / d) ∷ W d ∷ V ∷ []) (v0 ⊗ v1 ⊗ v2) (v0 ⊗ (v2 ⊗ v1)) refl
      ∙ ap (λ x. W (D / d) *ᶠ x) (sym cost_is)
      ∙ sym (W-times (D / d) C))

  pub denominators : common (leg_prices s.program s.table) ≤ common s.table.value
  denominators = le_of_dvd (common_pos s.table.value) divides

  pub value_is : nat_abs (get_or (numerators (common s.table.value) s.table.value) (right_side s.program) (pos 0)) / (common s.table.value / common (leg_prices s.program s.table)) ≡ value_over s.program s.table (common (leg_prices s.program s.table))
  value_is =
      ap (λ n. n / (D / d)) times_cost
      ∙ mul-div_cancel_left C (quotient_some D d (common_pos (leg_prices s.program s.table)) denominators)
      ∙ sym (W-num C)
      ∙ ap (λ x. nat_abs x.num) cost_is

  -- ---- the rows
  row_sign : (i : ℕ) → i < length s.table.rows → IsNonNegative (at (get_or s.table.rows i []) (right_side s.program))
  row_sign i l = ends s.program h.limits.products s.table (kept s h) (kept s h).basis_below signs i (omega (arith, l, (kept s h).shape))

  pub rows_signs : All (λ (row : List Fraction). less (at row (right_side s.program)) (whole (pos 0)) ≡ false) s.table.rows
  rows_signs = λ i e l. ap (λ row. less (at row (right_side s.program)) (whole (pos 0))) (get_or_default s.table.rows i e [] l) ∙ sign_less (at (get_or s.table.rows i []) (right_side s.program)) (row_sign i l)

  -- ---- the numbers of the certificate
  pub allotted_numbers : map (λ n. pos n) (over_common (product_values s.program s.table)) ≡ numerators (common (product_values s.program s.table)) (product_values s.program s.table)
  allotted_numbers = naturals (common (product_values s.program s.table)) (product_values s.program s.table) (λ j l.
      let short : j < product_count s.program = omega (arith, l, length-map (range_with_len 0 (product_count s.program)) (λ j. basic_value (right_side s.program) j s.table.basis s.table.rows), length-range_with_len 0 (product_count s.program)) in
      subst IsNonNegative (sym (made_at (λ j. basic_value (right_side s.program) j s.table.basis s.table.rows) (product_count s.program) j short)) (basic_sign (right_side s.program) j s.table.basis s.table.rows row_sign))

  pub price_numbers : map (λ n. pos n) (over_common (leg_prices s.program s.table)) ≡ numerators (common (leg_prices s.program s.table)) (leg_prices s.program s.table)
  price_numbers = naturals (common (leg_prices s.program s.table)) (leg_prices s.program s.table) (λ i l.
      let short : i < length s.program.caps = omega (arith, l, length-map (range_with_len 0 (length s.program.caps)) (λ i. at s.table.value (slack s.program i)), length-range_with_len 0 (length s.program.caps)) in
      subst IsNonNegative (sym (made_at (λ i. at s.table.value (slack s.program i)) (length s.program.caps) i short)) (signs (slack s.program i) (omega arith)))

  -- ---- told of the rows and the basis as they are read
  pub read_counts : (bs : List ℕ) (xs : List (List Fraction)) → bs ≡ s.table.basis → xs ≡ s.table.rows → length bs ≡ length xs
  read_counts bs xs e f = omega (arith, ap length e, ap length f, (kept s h).shape, (kept s h).basis_shape)

  pub read_signs : (xs : List (List Fraction)) → xs ≡ s.table.rows → All (λ (row : List Fraction). less (at row (right_side s.program)) (whole (pos 0)) ≡ false) xs
  read_signs xs f = subst (All (λ (row : List Fraction). less (at row (right_side s.program)) (whole (pos 0)) ≡ false)) (sym f) rows_signs

  pub read_values : (bs : List ℕ) (xs : List (List Fraction)) → bs ≡ s.table.basis → xs ≡ s.table.rows → map (λ j. basic_value (right_side s.program) j bs xs) (range_with_len 0 (product_count s.program)) ≡ product_values s.program s.table
  read_values bs xs e f = ap₂ (λ cs rows. map (λ j. basic_value (right_side s.program) j cs rows) (range_with_len 0 (product_count s.program))) e f

  pub value_read : (end : ℕ) (prices : List Fraction) (value : ℤ) → end ≡ right_side s.program → prices ≡ leg_prices s.program s.table → value ≡ pos (nat_abs (get_or (numerators (common s.table.value) s.table.value) end (pos 0)) / (common s.table.value / common prices)) → value ≡ pos (value_over s.program s.table (common (leg_prices s.program s.table)))
  value_read end prices value e f r =
      r ∙ ap₂ (λ c ps. pos (nat_abs (get_or (numerators (common s.table.value) s.table.value) c (pos 0)) / (common s.table.value / common ps))) e f ∙ ap pos value_is

  pub prices_denominators : (prices : List Fraction) → prices ≡ leg_prices s.program s.table → common prices ≤ common s.table.value
  prices_denominators prices f = subst (λ ps. common ps ≤ common s.table.value) (sym f) denominators

  pub certificate_made : (q den value : ℤ) (x p : List ℤ) (prices : List Fraction)
      → q ≡ pos (common (product_values s.program s.table)) → x ≡ numerators (common (product_values s.program s.table)) (product_values s.program s.table)
      → prices ≡ leg_prices s.program s.table → den ≡ pos (common prices) → p ≡ numerators (common prices) prices
      → value ≡ pos (value_over s.program s.table (common (leg_prices s.program s.table)))
      → certificate_of q x den p value ≡ certificate s.program s.table
  certificate_made q den value x p prices eq ex ep ed es ev = λ i. record {
    q = eq i;
    x = (ex ∙ sym allotted_numbers) i;
    den = (ed ∙ ap (λ ps. pos (common ps)) ep) i;
    p = (es ∙ ap (λ ps. numerators (common ps) ps) ep ∙ sym price_numbers) i;
    value = ev i;
  }
