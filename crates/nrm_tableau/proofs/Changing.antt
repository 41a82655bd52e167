-- Rows that change in their places.
use Rattle.std.proofs.Common.{◌≡◌, ℕ, zero, suc, ◌+◌, ◌-◌, ◌<◌, arith, refl, sym, ap, ap₂, ◌∙◌, subst, List, [], ◌∷◌, ◌++◌, map, set, take, drop, length, get_or, append_assoc, All}
use Rattle.std.proofs.lemmas.List.{drop_more, map-append, take_more, take_all, take_at, drop_all, get_or-drop, get_or_at, length-take-le, length-append, length-drop, length-map, append-nil}
use Rattle.std.proofs.lemmas.Slice.{drop-append-drop}
use borrow.Rule.Slice.PartMut.{put_mid}
use Rattle.nrm_fraction.specs.Fraction.{Fraction}
use Rattle.nrm_tableau.proofs.Faults.{behind_is}

-- the rows before a row, the row itself and those behind it
pub put_among : (F : List Fraction → List Fraction) (u : List Fraction) (r : ℕ) (rows : List (List Fraction)) → r < length rows → map F (take r rows) ++ u ∷ map F (drop (r + 1) rows) ≡ set (map F rows) r u
put_among F u r [] l = absurd (omega arith)
put_among F u zero (row ∷ rows) l = refl
put_among F u (suc r) (row ∷ rows) l = ap (λ n. F row ∷ map F (take r rows) ++ u ∷ map F (drop n (row ∷ rows))) next ∙ ap (λ xs. F row ∷ xs) (put_among F u r rows (omega arith))
  where
    next : suc r + 1 ≡ suc (r + 1)
    next = omega arith

-- a row that isn't made yet
pub still_there : (F : List Fraction → List Fraction) (old rows : List (List Fraction)) (k : ℕ) → k < length old → rows ≡ map F (take k old) ++ drop k old → get_or rows k [] ≡ get_or old k []
still_there F old rows k h p =
    ap (λ t. get_or t k []) (p ∙ ap (λ l. map F (take k old) ++ l) (drop_more old k [] h))
    ∙ get_or_at (map F (take k old)) (get_or old k []) (drop (k + 1) old) [] k (length-map (take k old) F ∙ length-take-le k old (omega arith))

-- a row that stays as it is
pub passed_by : (F : List Fraction → List Fraction) (old rows : List (List Fraction)) (k : ℕ) → k < length old → rows ≡ map F (take k old) ++ drop k old → F (get_or old k []) ≡ get_or old k [] → rows ≡ map F (take (k + 1) old) ++ drop (k + 1) old
passed_by F old rows k h p same =
    p
    ∙ ap (λ l. map F (take k old) ++ l) (drop_more old k [] h)
    ∙ ap (λ x. map F (take k old) ++ x ∷ drop (k + 1) old) (sym same)
    ∙ sym (append_assoc (map F (take k old)) (F (get_or old k []) ∷ []) (drop (k + 1) old))
    ∙ ap (λ xs. xs ++ drop (k + 1) old) (sym (ap (map F) (take_more old k [] h) ∙ map-append F (take k old) (get_or old k [] ∷ [])))

-- the rows behind the pivot row, once those before it are made
module _ (F : List Fraction → List Fraction) (rows front : List (List Fraction)) (r at : ℕ) (e : at ≡ r) (within : r < length rows) (made : front ≡ map F (take at rows)) where
  long : length front ≡ at
  long = ap length made ∙ length-map (take at rows) F ∙ length-take-le at rows (omega (arith, e, within))

  seam : drop (at + 1) (front ++ drop at rows) ≡ drop (at + 1) rows
  seam = drop-append-drop at rows front (at + 1) (omega arith) long

  count : length (front ++ drop at rows) ≡ length rows
  count = omega (arith, long, length-append front (drop at rows), length-drop at rows, e, within)

  pub slice_is : take (length (front ++ drop at rows) - (at + 1)) (drop (at + 1) (front ++ drop at rows)) ≡ take (length rows - (at + 1)) (drop (at + 1) rows)
  slice_is = ap₂ (λ n xs. take (n - (at + 1)) xs) count seam

  pub slice_widths : (w : ℕ) → All (λ (other : List Fraction). length other ≡ w) rows → All (λ (other : List Fraction). length other ≡ w) (take (length (front ++ drop at rows) - (at + 1)) (drop (at + 1) (front ++ drop at rows)))
  slice_widths w h = subst (All (λ (other : List Fraction). length other ≡ w)) (sym (slice_is ∙ behind_is r at rows e)) (λ k d l. ap length (get_or-drop (r + 1) rows k d) ∙ h (r + 1 + k) d (omega (arith, l, length-drop (r + 1) rows)))

  parts : front ++ drop at rows ≡ (front ++ get_or rows at [] ∷ []) ++ drop (at + 1) rows
  parts = ap (λ l. front ++ l) (drop_more rows at [] (omega (arith, e, within))) ∙ sym (append_assoc front (get_or rows at [] ∷ []) (drop (at + 1) rows))

  before : take (at + 1) (front ++ drop at rows) ≡ front ++ get_or rows at [] ∷ []
  before = ap (take (at + 1)) parts ∙ take_at (front ++ get_or rows at [] ∷ []) (drop (at + 1) rows) (at + 1) (omega (arith, length-append front (get_or rows at [] ∷ []), long))

  none : drop (length (front ++ drop at rows) - (at + 1)) (drop (at + 1) (front ++ drop at rows)) ≡ []
  none = drop_all (length (front ++ drop at rows) - (at + 1)) (drop (at + 1) (front ++ drop at rows)) (omega (arith, length-drop (at + 1) (front ++ drop at rows)))

  pub parts_put : (behind : List (List Fraction)) → behind ≡ map F (take (length (front ++ drop at rows) - (at + 1)) (drop (at + 1) (front ++ drop at rows))) → put_mid (at + 1) (length (front ++ drop at rows) - (at + 1)) (front ++ drop at rows) behind ≡ set (map F rows) r (get_or rows r [])
  parts_put behind b =
      ap₂ (λ xs ys. xs ++ (behind ++ ys)) before none
      ∙ ap (λ ys. (front ++ get_or rows at [] ∷ []) ++ ys) (append-nil behind ∙ b ∙ ap (map F) (slice_is ∙ behind_is r at rows e))
      ∙ append_assoc front (get_or rows at [] ∷ []) (map F (drop (r + 1) rows))
      ∙ ap₂ (λ xs x. xs ++ x ∷ map F (drop (r + 1) rows)) (made ∙ ap (λ n. map F (take n rows)) e) (ap (λ n. get_or rows n []) e)
      ∙ put_among F (get_or rows r []) r rows within

-- ---- the pivot row, last of all
pub set_again : (xs : List (List Fraction)) (i : ℕ) (a b : List Fraction) → set (set xs i a) i b ≡ set xs i b
set_again [] i a b = refl
set_again (x ∷ xs) zero a b = refl
set_again (x ∷ xs) (suc i) a b = ap (λ rest. x ∷ rest) (set_again xs i a b)

-- all of a list is written over another
pub written_whole : {A : Type 0} (new old : List A) (len : ℕ) → length new ≡ length old → len ≡ length old → take len (new ++ drop (length new) old) ≡ new
written_whole new old len h k =
    ap (λ t. take len (new ++ t)) (drop_all (length new) old (omega arith)) ∙ ap (take len) (append-nil new) ∙ take_all len new (omega arith)
