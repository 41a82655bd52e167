-- The closing of a path: the allocation and the bid prices that its last tableau shows, as whole numbers over two
-- denominators.
use Rattle.std.specs.Prelude.{ℕ, ◌≡◌, pos, nat_abs, List, ◌∷◌, map, length, if◌then◌else◌, ◌==◌}
use Rattle.std.specs.List.{range_with_len}
use Rattle.nrm_fraction.specs.Fraction.{Fraction, ◌*ᶠ◌, whole}
use Rattle.nrm_lp.specs.declared.certificate.Certificate.{Certificate}
use Rattle.nrm_lp.specs.Program.{ProgramValue, IsProgram}
use Rattle.nrm_fraction.specs.Large.{common, over_common}
use Rattle.nrm_lp.specs.Tableau.{Tableau, product_count, slack, right_side}
use Rattle.nrm_lp.specs.Path.{IsLast}
use Rattle.nrm_fraction.specs.Rows.{at}

-- the right side, which is column end, of the row whose basic column is j, and 0 where there is none
abbrev pub basic_value : ℕ → ℕ → List ℕ → List (List Fraction) → Fraction
basic_value end j (b ∷ bs) (xs ∷ rows) = if b == j then at xs end else basic_value end j bs rows
basic_value end j _ _ = whole (pos 0)

-- what is allotted to each product
abbrev pub product_values : ProgramValue → Tableau → List Fraction
product_values a t = map (λ j. basic_value (right_side a) j t.basis t.rows) (range_with_len 0 (product_count a))

-- the bid price of each leg: the value row at the leg's slack
abbrev pub leg_prices : ProgramValue → Tableau → List Fraction
leg_prices a t = map (λ i. at t.value (slack a i)) (range_with_len 0 (length a.caps))

-- the allocation x over q, and the bid prices p over den
pub record Closing : Type 0 where
  pub q : ℕ
  pub x : List ℕ
  pub den : ℕ
  pub p : List ℕ

abbrev pub closing : ProgramValue → Tableau → Closing
closing a t = record {
  q = common (product_values a t);
  x = over_common (product_values a t);
  den = common (leg_prices a t);
  p = over_common (leg_prices a t);
}

-- the value over the denominator d of the bid prices: the size of the value row's right side times d. Where the path
-- ends that is the number itself
abbrev pub value_over : ProgramValue → Tableau → ℕ → ℕ
value_over a t d = nat_abs (at t.value (right_side a) *ᶠ whole (pos d)).num

-- at a last tableau the value row's right side times the denominator of the bid prices is whole and not negative:
-- nothing is lost
abbrev pub ValueIsWhole : Type 0
ValueIsWhole = (a : ProgramValue) → IsProgram a → (t : Tableau) → IsLast a t
    → at t.value (right_side a) *ᶠ whole (pos (closing a t).den) ≡ whole (pos (value_over a t (closing a t).den))

-- the closing and its value, as the certificate of the program
abbrev pub certificate : ProgramValue → Tableau → Certificate
certificate a t = record {
  q = pos (closing a t).q;
  x = map (λ n. pos n) (closing a t).x;
  den = pos (closing a t).den;
  p = map (λ n. pos n) (closing a t).p;
  value = pos (value_over a t (closing a t).den);
}
