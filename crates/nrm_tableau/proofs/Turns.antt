-- The steps of the walks that find the entering column and the leaving row.
use Rattle.std.proofs.Common.{◌≡◌, ℕ, zero, suc, ◌+◌, ◌-◌, ◌<◌, ◌≤◌, pos, arith, refl, sym, ap, ◌∙◌, subst, List, [], ◌∷◌, drop, length, get_or, Bool, true, false, cond, Option, Some, None, inl, inr}
use Rattle.std.specs.List.{range_with_len}
use Rattle.std.specs.Option.{option_map}
use Rattle.std.proofs.lemmas.Bool.{cases_lt}
use Rattle.std.proofs.lemmas.List.{at_drop_more, at_drop_all, drop_more}
use Rattle.nrm_fraction.specs.Fraction.{Fraction, whole, less}
use Rattle.nrm_fraction.specs.Lex.{lex_below}
use Rattle.nrm_fraction.specs.Rows.{at, ratios, ratio_columns}
use Rattle.nrm_fraction.proofs.Tests.{less_true}
use Rattle.nrm_lp.specs.Program.{ProgramValue}
use Rattle.nrm_lp.specs.Tableau.{better, entering_from, key_columns, leaving_from, product_count, right_side, row_count, slack}
use Rattle.nrm_tableau.specs.Inner.Best.{IsCandidate, listed, wins_over}
use Rattle.nrm_tableau.proofs.FirstEntries.{slacks_are}
use Rattle.nrm_tableau.proofs.Sets.{nought_not_positive}

-- ---- the entering column
pub enter_more : (c : ℕ) (xs : List Fraction) → c + 1 < length xs → entering_from c (drop c xs) ≡ cond (less (at xs c) (whole (pos 0))) (Some c) (entering_from (c + 1) (drop (c + 1) xs))
enter_more c xs l =
    at_drop_more (entering_from c) xs c (whole (pos 0)) (omega arith)
    ∙ at_drop_more (λ ys. entering_from c (at xs c ∷ ys)) xs (c + 1) (whole (pos 0)) l
    ∙ ap (λ n. cond (less (at xs c) (whole (pos 0))) (Some c) (entering_from n (at xs (c + 1) ∷ drop (c + 1 + 1) xs))) next
    ∙ ap (λ ys. cond (less (at xs c) (whole (pos 0))) (Some c) (entering_from (c + 1) ys)) (sym (drop_more xs (c + 1) (whole (pos 0)) l))
  where
    next : suc c ≡ c + 1
    next = omega arith

pub enter_end : (c : ℕ) (xs : List Fraction) → length xs ≤ c + 1 → entering_from c (drop c xs) ≡ None
enter_end c xs l = elim (cases_lt c (length xs)) [
  | inl m ↦ at_drop_more (entering_from c) xs c (whole (pos 0)) m ∙ at_drop_all (λ ys. entering_from c (at xs c ∷ ys)) xs (c + 1) l
  | inr m ↦ at_drop_all (entering_from c) xs c m
]

-- a negative entry settles it, and another does not
pub enter_here : (c : ℕ) (xs : List Fraction) (b : Bool) → c + 1 < length xs → b ≡ less (at xs c) (whole (pos 0)) → b ≡ true → entering_from c (drop c xs) ≡ entering_from 0 xs → Some c ≡ entering_from 0 xs
enter_here c xs b l e t h = sym (enter_more c xs l ∙ ap (λ b. cond b (Some c) (entering_from (c + 1) (drop (c + 1) xs))) (sym e ∙ t)) ∙ h

pub enter_later : (c : ℕ) (xs : List Fraction) (b : Bool) → c + 1 < length xs → b ≡ less (at xs c) (whole (pos 0)) → b ≡ false → entering_from c (drop c xs) ≡ entering_from 0 xs → entering_from (c + 1) (drop (c + 1) xs) ≡ entering_from 0 xs
enter_later c xs b l e t h = sym (enter_more c xs l ∙ ap (λ b. cond b (Some c) (entering_from (c + 1) (drop (c + 1) xs))) (sym e ∙ t)) ∙ h

-- nor do some others
pub enter_past : (c n : ℕ) (xs : List Fraction) → c + n < length xs → ((k : ℕ) → c ≤ k → k < c + n → less (at xs k) (whole (pos 0)) ≡ false) → entering_from c (drop c xs) ≡ entering_from 0 xs → entering_from (c + n) (drop (c + n) xs) ≡ entering_from 0 xs
enter_past c zero xs l z h = subst (λ m. entering_from m (drop m xs) ≡ entering_from 0 xs) here h
  where
    here : c ≡ c + 0
    here = omega arith
enter_past c (suc n) xs l z h = subst (λ m. entering_from m (drop m xs) ≡ entering_from 0 xs) here (enter_later (c + n) xs (less (at xs (c + n)) (whole (pos 0))) (omega arith) refl (z (c + n) (omega arith) (omega arith)) (enter_past c n xs (omega arith) (λ k m o. z k m (omega arith)) h))
  where
    here : c + n + 1 ≡ c + suc n
    here = omega arith

-- ---- the leaving row
pub columns_are : (a : ProgramValue) (w : ℕ) → w ≡ suc (right_side a) → ratio_columns (product_count a) w ≡ key_columns a
columns_are a w e = ap (λ n. n ∷ range_with_len (product_count a) (n - product_count a)) last ∙ ap (λ n. right_side a ∷ range_with_len (product_count a) n) count ∙ ap (λ xs. right_side a ∷ xs) (ap (λ k. range_with_len k (row_count a)) start ∙ sym (slacks_are a (row_count a) 0))
  where
    last : w - 1 ≡ right_side a
    last = omega arith

    count : right_side a - product_count a ≡ row_count a
    count = omega arith

    start : product_count a ≡ slack a 0
    start = omega arith

module _ (a : ProgramValue) (rows : List (List Fraction)) (s : ℕ) where
  abbrev own_list : ℕ → List Fraction
  own_list k = ratios (key_columns a) s (get_or rows k [])

  -- the better of row k and the best row behind it
  abbrev step : ℕ → Option (ℕ × List Fraction) → Option (ℕ × List Fraction)
  step k found = cond (less (whole (pos 0)) (at (get_or rows k []) s)) (better k (own_list k) found) found

  pub candidate_taken : (k : ℕ) → k < length rows → less (whole (pos 0)) (at (get_or rows k []) s) ≡ true → IsCandidate rows s (Some k)
  candidate_taken k l p = (l, less_true (whole (pos 0)) (at (get_or rows k []) s) p)

  -- one more row in front
  pub walk_more : (k : ℕ) (best new : Option ℕ) → k < length rows → listed a rows s new ≡ step k (listed a rows s best) → listed a rows s best ≡ leaving_from (key_columns a) s (k + 1) (drop (k + 1) rows) → listed a rows s new ≡ leaving_from (key_columns a) s k (drop k rows)
  walk_more k best new l e h =
      e ∙ ap (step k) h
      ∙ ap (λ n. step k (leaving_from (key_columns a) s n (drop (k + 1) rows))) next
      ∙ sym (at_drop_more (leaving_from (key_columns a) s k) rows k [] l)
    where
      next : k + 1 ≡ suc k
      next = omega arith

  pub walk_none : (k : ℕ) → length rows ≤ k → None ≡ leaving_from (key_columns a) s k (drop k rows)
  walk_none k l = sym (at_drop_all (leaving_from (key_columns a) s k) rows k l)

  -- a row with a 0 in the column is passed by
  pub walk_past : (k : ℕ) (found : Option (ℕ × List Fraction)) → at (get_or rows k []) s ≡ whole (pos 0) → found ≡ step k found
  walk_past k found nought = sym (ap (λ b. cond b (better k (own_list k) found) found) (nought_not_positive (at (get_or rows k []) s) nought))

  pub walked : (best : Option ℕ) → listed a rows s best ≡ leaving_from (key_columns a) s 0 rows → best ≡ option_map (λ (found : ℕ × List Fraction). found.0) (leaving_from (key_columns a) s 0 rows)
  walked None h = ap (option_map (λ (found : ℕ × List Fraction). found.0)) h
  walked (Some k) h = ap (option_map (λ (found : ℕ × List Fraction). found.0)) h

  -- and so are several
  pub walk_down : (low high : ℕ) (best : Option ℕ) → low ≤ high → high ≤ length rows → ((k : ℕ) → low ≤ k → k < high → at (get_or rows k []) s ≡ whole (pos 0)) → listed a rows s best ≡ leaving_from (key_columns a) s high (drop high rows) → listed a rows s best ≡ leaving_from (key_columns a) s low (drop low rows)
  walk_down low high best l m noughts h = go (high - low) low (omega arith) noughts
    where
      go : (d k : ℕ) → k + d ≡ high → ((j : ℕ) → k ≤ j → j < high → at (get_or rows j []) s ≡ whole (pos 0)) → listed a rows s best ≡ leaving_from (key_columns a) s k (drop k rows)
      go zero k e z = let same : high ≡ k = omega (arith, e) in subst (λ n. listed a rows s best ≡ leaving_from (key_columns a) s n (drop n rows)) same h
      go (suc d) k e z = walk_more k best best (omega (arith, e, m)) (walk_past k (listed a rows s best) (z k (omega arith) (omega (arith, e)))) (go d (k + 1) (omega (arith, e)) (λ j n b. z j (omega arith) b))

  -- what `less_ratio` answers of two rows, told by their numbers
  pub less_told : (k other : ℕ) (own its : List Fraction) (from : ℕ) (b : Bool) → own ≡ get_or rows k [] → its ≡ get_or rows other [] → length own ≡ suc (right_side a) → from ≡ product_count a → b ≡ lex_below (ratios (ratio_columns from (length own)) s own) (ratios (ratio_columns from (length own)) s its) → b ≡ wins_over a rows s k (Some other)
  less_told k other own its from b e f w first h =
      h
      ∙ ap (λ n. lex_below (ratios (ratio_columns n (length own)) s own) (ratios (ratio_columns n (length own)) s its)) first
      ∙ ap (λ cs. lex_below (ratios cs s own) (ratios cs s its)) (columns_are a (length own) w)
      ∙ ap (λ xs. lex_below (ratios (key_columns a) s xs) (ratios (key_columns a) s its)) e
      ∙ ap (λ xs. lex_below (own_list k) (ratios (key_columns a) s xs)) f
