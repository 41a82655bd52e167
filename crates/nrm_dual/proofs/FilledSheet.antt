-- The lines of a certificate, one after the other, fill a blank sheet.
use Rattle.std.proofs.Common.{◌≡◌, ℕ, zero, suc, ◌+◌, ◌<◌, arith, refl, sym, ap, ap₂, ◌∙◌, List, [], ◌∷◌, ◌++◌, map, length, get_or, set}
use Rattle.std.proofs.Common.{replicate, append_assoc, false, Option, Some, None, Ok, Err}
use Rattle.std.specs.Prelude.{if◌then◌else◌}
use Rattle.std.specs.List.{range_with_len}
use Rattle.std.proofs.Math.Seq.{get_or-append_seam, set-append_seam}
use Rattle.std.proofs.lemmas.List.{append-nil}
use Rattle.std.proofs.lemmas.List.FromFn.{length-map-range_with_len, map-range_with_len_more}
use Rattle.nrm_model.specs.Network.{NetworkValue}
use Rattle.nrm_dual.specs.Refusals.{large_line}
use Rattle.nrm_dual.specs.Reading.{Written, Place, the_value, of_product, of_leg, Entry, entry_of, Sheet, blank, given, with_given, is_over}
use Rattle.nrm_dual.specs.Reading.{after_entry, after_line, after_lines, or_refusal}
use Rattle.nrm_dual.proofs.SheetBack.{full_sheet}

abbrev pub entry_for : Place → Written → Entry
entry_for place w = record { place = place; fraction = w }

-- a line that gives a fraction for a place that has none
line_given : (net : NetworkValue) (sheet : Sheet) (number : ℕ) (line : List ℕ) (more : List (List ℕ)) (place : Place) (w : Written)
    → entry_of net line ≡ Some (entry_for place w) → given sheet place ≡ None → is_over w ≡ false
    → after_lines net sheet number (line ∷ more) ≡ after_lines net (with_given sheet place w) (suc number) more
line_given net sheet number line more place w entry none fits =
    ap (λ e. or_refusal (after_line sheet number e) (λ next. after_lines net next (suc number) more)) entry
    ∙ ap (λ before. or_refusal (after_entry sheet number (entry_for place w) before) (λ next. after_lines net next (suc number) more)) none
    ∙ ap (λ large. or_refusal (if large then Err (large_line number) else Ok (with_given sheet place w)) (λ next. after_lines net next (suc number) more)) fits

-- the first of these are given, and then so many aren't
abbrev partly : (ℕ → Written) → ℕ → ℕ → List (Option Written)
partly w a n = map (λ j. Some (w j)) (range_with_len 0 a) ++ replicate n None

first_free : (w : ℕ → Written) (a n : ℕ) → get_or (partly w a (suc n)) a None ≡ None
first_free w a n =
    ap (λ k. get_or (partly w a (suc n)) k None) (sym (length-map-range_with_len (λ j. Some (w j)) 0 a))
    ∙ get_or-append_seam (map (λ j. Some (w j)) (range_with_len 0 a)) None (replicate n None) None

one_more : (w : ℕ → Written) (a n : ℕ) → set (partly w a (suc n)) a (Some (w a)) ≡ partly w (a + 1) n
one_more w a n =
    ap (λ k. set (partly w a (suc n)) k (Some (w a))) (sym (length-map-range_with_len (λ j. Some (w j)) 0 a))
    ∙ set-append_seam (map (λ j. Some (w j)) (range_with_len 0 a)) None (replicate n None) (Some (w a))
    ∙ sym (append_assoc (map (λ j. Some (w j)) (range_with_len 0 a)) (Some (w a) ∷ []) (replicate n None))
    ∙ ap (λ front. front ++ replicate n None) (sym (map-range_with_len_more (λ j. Some (w j)) 0 a a (omega arith)))

all_given : (w : ℕ → Written) (a all : ℕ) → a + 0 ≡ all → partly w a 0 ≡ map (λ j. Some (w j)) (range_with_len 0 all)
all_given w a all e = append-nil (map (λ j. Some (w j)) (range_with_len 0 a)) ∙ ap (λ n. map (λ j. Some (w j)) (range_with_len 0 n)) whole
  where
    whole : a ≡ all
    whole = omega (arith, e)

module _ (net : NetworkValue) (value : Option Written) (w : ℕ → Written) (line : ℕ → List ℕ) (all : ℕ) (fits : (j : ℕ) → is_over (w j) ≡ false) (more : List (List ℕ)) where
  products_given : (legs : List (Option Written)) → ((j : ℕ) → j < all → entry_of net (line j) ≡ Some (entry_for (of_product j) (w j)))
      → (n a number : ℕ) → a + n ≡ all
      → after_lines net (record { value = value; products = partly w a n; legs = legs }) number (map line (range_with_len a n) ++ more)
      ≡ after_lines net (record { value = value; products = map (λ j. Some (w j)) (range_with_len 0 all); legs = legs }) (number + n) more
  products_given legs entries zero a number e =
      ap₂ (λ products k. after_lines net (record { value = value; products = products; legs = legs }) k more) (all_given w a all e) (omega arith)
  products_given legs entries (suc n) a number e =
      line_given net (record { value = value; products = partly w a (suc n); legs = legs }) number (line a) (map line (range_with_len (a + 1) n) ++ more) (of_product a) (w a) (entries a (omega (arith, e))) (first_free w a n) (fits a)
      ∙ ap (λ products. after_lines net (record { value = value; products = products; legs = legs }) (suc number) (map line (range_with_len (a + 1) n) ++ more)) (one_more w a n)
      ∙ products_given legs entries n (a + 1) (suc number) (omega (arith, e))
      ∙ ap (λ k. after_lines net (record { value = value; products = map (λ j. Some (w j)) (range_with_len 0 all); legs = legs }) k more) (omega arith)

  legs_given : (products : List (Option Written)) → ((i : ℕ) → i < all → entry_of net (line i) ≡ Some (entry_for (of_leg i) (w i)))
      → (n a number : ℕ) → a + n ≡ all
      → after_lines net (record { value = value; products = products; legs = partly w a n }) number (map line (range_with_len a n) ++ more)
      ≡ after_lines net (record { value = value; products = products; legs = map (λ i. Some (w i)) (range_with_len 0 all) }) (number + n) more
  legs_given products entries zero a number e =
      ap₂ (λ legs k. after_lines net (record { value = value; products = products; legs = legs }) k more) (all_given w a all e) (omega arith)
  legs_given products entries (suc n) a number e =
      line_given net (record { value = value; products = products; legs = partly w a (suc n) }) number (line a) (map line (range_with_len (a + 1) n) ++ more) (of_leg a) (w a) (entries a (omega (arith, e))) (first_free w a n) (fits a)
      ∙ ap (λ legs. after_lines net (record { value = value; products = products; legs = legs }) (suc number) (map line (range_with_len (a + 1) n) ++ more)) (one_more w a n)
      ∙ legs_given products entries n (a + 1) (suc number) (omega (arith, e))
      ∙ ap (λ k. after_lines net (record { value = value; products = products; legs = map (λ i. Some (w i)) (range_with_len 0 all) }) k more) (omega arith)

-- the value's line, a line for each product and one for each leg
pub sheet_filled : (net : NetworkValue) (value : Written) (shares prices : ℕ → Written) (value_row : List ℕ) (product_row leg_row : ℕ → List ℕ)
    → entry_of net value_row ≡ Some (entry_for the_value value)
    → ((j : ℕ) → j < length net.products → entry_of net (product_row j) ≡ Some (entry_for (of_product j) (shares j)))
    → ((i : ℕ) → i < length net.legs → entry_of net (leg_row i) ≡ Some (entry_for (of_leg i) (prices i)))
    → is_over value ≡ false → ((j : ℕ) → is_over (shares j) ≡ false) → ((i : ℕ) → is_over (prices i) ≡ false)
    → after_lines net (blank net) 1 (value_row ∷ (map product_row (range_with_len 0 (length net.products)) ++ (map leg_row (range_with_len 0 (length net.legs)) ++ []))) ≡ Ok (full_sheet net value shares prices)
sheet_filled net value shares prices value_row product_row leg_row value_entry product_entries leg_entries value_fits shares_fit prices_fit =
    let leg_rows : List (List ℕ) = map leg_row (range_with_len 0 (length net.legs)) ++ [] in
    let all : List (Option Written) = map (λ j. Some (shares j)) (range_with_len 0 (length net.products)) in
    line_given net (blank net) 1 value_row (map product_row (range_with_len 0 (length net.products)) ++ leg_rows) the_value value value_entry refl value_fits
    ∙ products_given net (Some value) shares product_row (length net.products) shares_fit leg_rows (replicate (length net.legs) None) product_entries (length net.products) 0 2 (omega arith)
    ∙ legs_given net (Some value) prices leg_row (length net.legs) prices_fit [] all leg_entries (length net.legs) 0 (2 + length net.products) (omega arith)
