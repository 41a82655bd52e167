-- The sets of a tableau's columns: those of the first tableau, those after a pivot, and what a row outside of one shows.
use Rattle.std.proofs.Common.{◌≡◌, ◌≢◌, ℕ, ◌+◌, ◌-◌, ◌<◌, ◌≤◌, ◌⊎◌, ◌||◌, inl, inr, ℤ, pos, arith, refl, sym, ap, ap₂, ◌∙◌, subst, List, [], ◌∷◌, ◌++◌, map, set, take, length, get_or, Bool, true, false, eqb, ne_eqb, get_or-set_same, get_or-set_other}
use Rattle.std.proofs.lemmas.List.{get_or_push, get_or_append_left, length-map, length-set, length-append, take_more}
use Rattle.std.proofs.lemmas.Bool.{cases_lt, eqb-true}
use Rattle.nrm_number.proofs.Ring.{solve, ◌⊖◌, v0, v1}
use Rattle.nrm_number.proofs.Ring.Expr.{◌⊗◌, e0}
use Rattle.nrm_fraction.specs.Fraction.{Fraction, ◌*ᶠ◌, ◌-ᶠ◌, ◌/ᶠ◌, inverse, less, whole}
use Rattle.nrm_fraction.specs.Rows.{at, combine, minus_times, number_at, unit_row}
use Rattle.nrm_fraction.proofs.Field.{ring_F, <ᶠ_irrefl}
use Rattle.nrm_fraction.proofs.Tests.{less_unless}
use Rattle.nrm_row.proofs.Filled.{past_last}
use Rattle.nrm_lp.specs.Program.{ProgramValue, names}
use Rattle.nrm_lp.specs.Tableau.{Tableau, first_entry, first_tableau, one_if, pivot, product_count, right_side, row_count, slack}
use Rattle.nrm_lp.proofs.Tables.{at-divided, at-minus_times, bound_entry, first_at, first_rows, leg_entry, row_other, row_same, slack_entry}
use Rattle.nrm_tableau.specs.RowSets.{Covers, IsNoughtBut, row_bit}
use Rattle.nrm_tableau.proofs.RowBits.{one_nought, same_or_not}

-- ---- a row with a 0 in the column
pub nought_not_positive : (x : Fraction) → x ≡ whole (pos 0) → less (whole (pos 0)) x ≡ false
nought_not_positive x e = ap (less (whole (pos 0))) e ∙ less_unless (whole (pos 0)) (whole (pos 0)) (<ᶠ_irrefl (whole (pos 0)))

minus_nought : (us xs : List Fraction) → length us ≡ length xs → minus_times (whole (pos 0)) us xs ≡ xs
minus_nought [] xs l = refl
minus_nought (u ∷ us) [] l = absurd (omega arith)
minus_nought (u ∷ us) (x ∷ xs) l = ap₂ (λ y ys. y ∷ ys) (solve ring_F (x ∷ u ∷ []) (v0 ⊖ e0 ⊗ v1) v0 refl) (minus_nought us xs (omega arith))

-- it stays as it is
pub uncombined : (col : ℕ) (us xs : List Fraction) → length us ≡ length xs → at xs col ≡ whole (pos 0) → combine col us xs ≡ xs
uncombined col us xs l e = ap (λ x. minus_times x us xs) e ∙ minus_nought us xs l

-- ---- the first tableau
names-push : (i l : ℕ) (ls : List ℕ) → names i (ls ++ l ∷ []) ≡ true → (names i ls ≡ true) ⊎ (i ≡ l)
names-push i l [] e = go (eqb i l) refl e
  where
    go : (b : Bool) → eqb i l ≡ b → (b || false) ≡ true → (false ≡ true) ⊎ (i ≡ l)
    go true same f = inr (eqb-true i l same)
    go false same f = inl f
names-push i l (k ∷ ls) e = go (eqb i k) (names-push i l ls) e
  where
    go : (b : Bool) → (names i (ls ++ l ∷ []) ≡ true → (names i ls ≡ true) ⊎ (i ≡ l)) → (b || names i (ls ++ l ∷ [])) ≡ true → ((b || names i ls) ≡ true) ⊎ (i ≡ l)
    go true later f = inl refl
    go false later f = later f

-- the rows that are put in so far: that of the product's bound, and those of its first legs
pub record HasLegs (words : List ℕ) (bound : ℕ) (legs : List ℕ) : Type 0 where
  pub bounded : row_bit words bound ≡ 1
  pub named : (i : ℕ) → names i legs ≡ true → row_bit words i ≡ 1

pub legs_more : (words new : List ℕ) (bound k l : ℕ) (legs : List ℕ) → k < length legs → l ≡ get_or legs k 0 → row_bit new l ≡ 1 → ((r : ℕ) → row_bit words r ≡ 1 → row_bit new r ≡ 1) → HasLegs words bound (take k legs) → HasLegs new bound (take (k + 1) legs)
legs_more words new bound k l legs within is put kept h = record {
  bounded = kept bound h.bounded;
  named = λ i named. go i (names-push i l (take k legs) (ap (names i) (ap (λ x. take k legs ++ x ∷ []) is ∙ sym (take_more legs k 0 within)) ∙ named));
}
  where
    go : (i : ℕ) → (names i (take k legs) ≡ true) ⊎ (i ≡ l) → row_bit new i ≡ 1
    go i (inl e) = kept i (h.named i e)
    go i (inr e) = ap (row_bit new) e ∙ put

module _ (a : ProgramValue) where
  pub legs_cover : (j : ℕ) (words : List ℕ) → j < product_count a → HasLegs words (length a.caps + j) (get_or a.legs j []) → IsNoughtBut words (row_count a) (λ r. first_entry a r j)
  legs_cover j words lj h r lr nought = by_kind (cases_lt r (length a.caps))
    where
      by_name : (b : Bool) → names r (get_or a.legs j []) ≡ b → one_if b ≡ whole (pos 0)
      by_name true e = absurd (one_nought (h.named r e) nought)
      by_name false e = refl

      by_row : (b : Bool) → eqb j (r - length a.caps) ≡ b → length a.caps ≤ r → one_if b ≡ whole (pos 0)
      by_row true e low = let same : r ≡ length a.caps + j = omega (arith, eqb-true j (r - length a.caps) e) in absurd (one_nought h.bounded (ap (row_bit words) (sym same) ∙ nought))
      by_row false e low = refl

      by_kind : (r < length a.caps) ⊎ (length a.caps ≤ r) → first_entry a r j ≡ whole (pos 0)
      by_kind (inl l) = leg_entry a r j l lj ∙ by_name (names r (get_or a.legs j [])) refl
      by_kind (inr l) =
          let back : length a.caps + (r - length a.caps) ≡ r = omega arith in
          ap (λ i. first_entry a i j) (sym back) ∙ bound_entry a (r - length a.caps) j lj ∙ by_row (eqb j (r - length a.caps)) refl l

  pub slack_covers : (k : ℕ) (words : List ℕ) → k < row_count a → row_bit words k ≡ 1 → IsNoughtBut words (row_count a) (λ r. first_entry a r (slack a k))
  slack_covers k words lk there r lr nought = slack_entry a r (slack a k) (omega arith) (omega arith) ∙ ap one_if (ne_eqb (slack a k) (slack a r) apart)
    where
      apart : slack a k ≡ slack a r → ⊥
      apart e = let same : r ≡ k = omega arith in one_nought there (ap (row_bit words) (sym same) ∙ nought)

  -- so many columns have their set
  pub record CoversTo (sets : List (List ℕ)) (n : ℕ) : Type 0 where
    pub long : length sets ≡ n
    pub noughts : (c : ℕ) → c < n → IsNoughtBut (get_or sets c []) (row_count a) (λ r. first_entry a r c)

  pub covers_more : (sets new : List (List ℕ)) (words : List ℕ) (n : ℕ) → CoversTo sets n → IsNoughtBut words (row_count a) (λ r. first_entry a r n) → new ≡ sets ++ words ∷ [] → CoversTo new (n + 1)
  covers_more sets new words n h last put = record {
    long = ap length put ∙ length-append sets (words ∷ []) ∙ ap (λ k. k + 1) h.long;
    noughts = λ c l. go c (cases_lt c n) l;
  }
    where
      here : get_or new n [] ≡ words
      here = ap (λ xs. get_or xs n []) put ∙ get_or_push sets words [] n h.long

      before : (c : ℕ) → c < n → get_or new c [] ≡ get_or sets c []
      before c l = ap (λ xs. get_or xs c []) put ∙ get_or_append_left sets (words ∷ []) [] c (omega (arith, h.long, l))

      go : (c : ℕ) → (c < n) ⊎ (n ≤ c) → c < n + 1 → IsNoughtBut (get_or new c []) (row_count a) (λ r. first_entry a r c)
      go c (inl l) m = subst (λ ws. IsNoughtBut ws (row_count a) (λ r. first_entry a r c)) (sym (before c l)) (h.noughts c l)
      go c (inr l) m = let same : n ≡ c = omega arith in subst (λ k. IsNoughtBut (get_or new k []) (row_count a) (λ r. first_entry a r k)) same (subst (λ ws. IsNoughtBut ws (row_count a) (λ r. first_entry a r n)) (sym here) last)

  pub covers_all : (sets : List (List ℕ)) (n : ℕ) → n ≡ right_side a → CoversTo sets n → Covers (right_side a) sets (first_tableau a).rows
  covers_all sets n e h = record {
    count = h.long ∙ e;
    noughts = λ c l r lr nought. first_at a r c (omega (arith, lr, first_rows a)) (omega arith) ∙ h.noughts c (omega arith) r (omega (arith, lr, first_rows a)) nought;
  }

-- ---- the rows that change are put into the sets of the unit row's columns, entry by entry
pub record IsSpreadTo (old now : List (List ℕ)) (changed : List ℕ) (es : List (ℕ × ℤ)) : Type 0 where
  pub long : length now ≡ length old
  pub bits : (c r : ℕ) → c < length old → row_bit (get_or now c []) r ≡ 0 → (row_bit (get_or old c []) r ≡ 0) × ((row_bit changed r ≡ 0) ⊎ (number_at es c ≡ pos 0))

later : (changed : List ℕ) (es : List (ℕ × ℤ)) (col c r : ℕ) (n : ℤ) → ¬ (c ≡ col) → (row_bit changed r ≡ 0) ⊎ (number_at es c ≡ pos 0) → (row_bit changed r ≡ 0) ⊎ (number_at (es ++ (col, n) ∷ []) c ≡ pos 0)
later changed es col c r n d (inl e) = inl e
later changed es col c r n d (inr e) = inr (past_last es col c n d ∙ e)

pub spread_more : (old now : List (List ℕ)) (changed joined : List ℕ) (es : List (ℕ × ℤ)) (col : ℕ) (n : ℤ) → col < length now → ((r : ℕ) → row_bit joined r ≡ 0 → (row_bit (get_or now col []) r ≡ 0) × (row_bit changed r ≡ 0)) → IsSpreadTo old now changed es → IsSpreadTo old (set now col joined) changed (es ++ (col, n) ∷ [])
spread_more old now changed joined es col n within both h = record {
  long = length-set now col joined ∙ h.long;
  bits = λ c r l e. go c r l e (same_or_not c col);
}
  where
    go : (c r : ℕ) → c < length old → row_bit (get_or (set now col joined) c []) r ≡ 0 → (c ≡ col) ⊎ ¬ (c ≡ col) → (row_bit (get_or old c []) r ≡ 0) × ((row_bit changed r ≡ 0) ⊎ (number_at (es ++ (col, n) ∷ []) c ≡ pos 0))
    go c r l e (inl s) =
        let here = both r (ap (λ ws. row_bit ws r) (sym (ap (λ k. get_or (set now col joined) k []) s ∙ get_or-set_same now col joined [] within)) ∙ e) in
        ((h.bits c r l (ap (λ k. row_bit (get_or now k []) r) s ∙ here.0)).0, inl here.1)
    go c r l e (inr d) =
        let there = h.bits c r l (ap (λ ws. row_bit ws r) (sym (get_or-set_other now col c joined [] d)) ∙ e) in
        (there.0, later changed es col c r n d there.1)

-- past the columns that have a set
pub spread_past : (old now : List (List ℕ)) (changed : List ℕ) (es : List (ℕ × ℤ)) (col : ℕ) (n : ℤ) → length now ≤ col → IsSpreadTo old now changed es → IsSpreadTo old now changed (es ++ (col, n) ∷ [])
spread_past old now changed es col n past h = record {
  long = h.long;
  bits = λ c r l e. let there = h.bits c r l e in (there.0, later changed es col c r n (λ s. omega (arith, h.long, l, s)) there.1);
}

-- ---- the sets after a pivot
module _ (t : Tableau) (row col n : ℕ) (old sets : List (List ℕ)) (changed own : List ℕ) (es : List (ℕ × ℤ)) (within : row < length t.rows) (before : col < n) (covers : Covers n old t.rows) where
  abbrev unit : List Fraction
  unit = unit_row col (get_or t.rows row [])

  nought_divided : (x p : Fraction) → x ≡ whole (pos 0) → x /ᶠ p ≡ whole (pos 0)
  nought_divided x p e = ap (λ y. y /ᶠ p) e ∙ solve ring_F (inverse p ∷ []) (e0 ⊗ v0) e0 refl

  nought_minus : (x a u : Fraction) → x ≡ whole (pos 0) → (a ≡ whole (pos 0)) ⊎ (u ≡ whole (pos 0)) → x -ᶠ a *ᶠ u ≡ whole (pos 0)
  nought_minus x a u e (inl f) = ap₂ (λ y b. y -ᶠ b *ᶠ u) e f ∙ solve ring_F (u ∷ []) (e0 ⊖ e0 ⊗ v0) e0 refl
  nought_minus x a u e (inr f) = ap₂ (λ y w. y -ᶠ a *ᶠ w) e f ∙ solve ring_F (a ∷ []) (e0 ⊖ v0 ⊗ e0) e0 refl

  pub covers_next : IsSpreadTo old sets changed es → ((r : ℕ) → r < length t.rows → r ≢ row → row_bit changed r ≡ 0 → at (get_or t.rows r []) col ≡ whole (pos 0)) → row_bit own row ≡ 1 → ((c : ℕ) → number_at es c ≡ pos 0 → at unit c ≡ whole (pos 0)) → ((i : ℕ) → i < length t.rows → i ≢ row → at (get_or (pivot t row col).rows i []) col ≡ whole (pos 0)) → Covers n (set sets col own) (pivot t row col).rows
  covers_next spread unchanged there listed zeros = record {
    count = length-set sets col own ∙ spread.long ∙ covers.count;
    noughts = λ c lc r lr nought. by_column c lc r (omega (arith, lr, count)) nought (same_or_not c col);
  }
    where
      count : length (pivot t row col).rows ≡ length t.rows
      count = length-set (map (combine col unit) t.rows) row unit ∙ length-map t.rows (combine col unit)

      changes : (c r : ℕ) → r < length t.rows → r ≢ row → (row_bit changed r ≡ 0) ⊎ (number_at es c ≡ pos 0) → (at (get_or t.rows r []) col ≡ whole (pos 0)) ⊎ (at unit c ≡ whole (pos 0))
      changes c r lr d (inl e) = inl (unchanged r lr d e)
      changes c r lr d (inr e) = inr (listed c e)

      by_row : (c : ℕ) → c < n → (r : ℕ) → r < length t.rows → row_bit (get_or sets c []) r ≡ 0 → (r ≡ row) ⊎ ¬ (r ≡ row) → at (get_or (pivot t row col).rows r []) c ≡ whole (pos 0)
      by_row c lc r lr nought (inl s) =
          ap (λ k. at (get_or (pivot t row col).rows k []) c) s
          ∙ ap (λ xs. at xs c) (row_same t unit row col within)
          ∙ at-divided (at (get_or t.rows row []) col) (get_or t.rows row []) c
          ∙ nought_divided (at (get_or t.rows row []) c) (at (get_or t.rows row []) col) (covers.noughts c lc row within (ap (row_bit (get_or old c [])) (sym s) ∙ (spread.bits c r (omega (arith, covers.count)) nought).0))
      by_row c lc r lr nought (inr d) =
          let bits = spread.bits c r (omega (arith, covers.count)) nought in
          ap (λ xs. at xs c) (row_other t unit row col r lr d)
          ∙ at-minus_times (at (get_or t.rows r []) col) unit (get_or t.rows r []) c
          ∙ nought_minus (at (get_or t.rows r []) c) (at (get_or t.rows r []) col) (at unit c) (covers.noughts c lc r lr bits.0) (changes c r lr d bits.1)

      by_column : (c : ℕ) → c < n → (r : ℕ) → r < length t.rows → row_bit (get_or (set sets col own) c []) r ≡ 0 → (c ≡ col) ⊎ ¬ (c ≡ col) → at (get_or (pivot t row col).rows r []) c ≡ whole (pos 0)
      by_column c lc r lr nought (inl s) =
          let words : get_or (set sets col own) c [] ≡ own = ap (λ k. get_or (set sets col own) k []) s ∙ get_or-set_same sets col own [] (omega (arith, spread.long, covers.count)) in
          let apart : r ≢ row = λ e. one_nought there (ap (row_bit own) (sym e) ∙ ap (λ ws. row_bit ws r) (sym words) ∙ nought) in
          ap (at (get_or (pivot t row col).rows r [])) s ∙ zeros r lr apart
      by_column c lc r lr nought (inr d) = by_row c lc r lr (ap (λ ws. row_bit ws r) (sym (get_or-set_other sets col c own [] d)) ∙ nought) (same_or_not r row)
