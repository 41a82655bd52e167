-- The numerators over a denominator, one after the other, up to the first that reaches the limit.
use Rattle.std.proofs.Common.{◌≡◌, ℕ, ◌+◌, ◌/◌, ◌<◌, ◌≤◌, ◌^◌, ◌*ℤ◌, pos, nat_abs, arith, refl, sym, ap, ap₂, ◌∙◌, subst, List, [], ◌∷◌, ◌++◌, take, drop, length, get_or, ℤ, cond, leb, Bool, true, false, Some, None, to_z, w64}
use mir.Syntax.{w128}
use Rattle.std.proofs.lemmas.Bool.{lt-leb, le-leb}
use Rattle.std.proofs.lemmas.Int.{ints}
use Rattle.std.proofs.lemmas.List.{drop_all, drop_more, map-append, take_all, take_more}
use Rattle.std.proofs.lemmas.Option.{none-some}
use Rattle.nrm_fraction.specs.Fraction.{Fraction, whole}
use Rattle.nrm_fraction.specs.Large.{numerators, first_reaching, size_limit}
use Rattle.nrm_fraction.specs.Fault.{IsFault}
use Rattle.nrm_fraction.specs.declared.fault.RowFault.{RowFault}
use Rattle.nrm_fraction.specs.declared.fault.RowFault.TheVariants.{Large, NoMemory}
use Rattle.nrm_fraction.proofs.Reaching.{reaching_yes, reaching_no}

pub short_same : (n : ℕ) → n < size_limit → to_z w64 n ≡ pos n
short_same n h = omega (arith, ints)

pub wide_same : (n : ℕ) → n < 2 ^ 116 → to_z w128 n ≡ pos n
wide_same n h = omega (arith, ints)

-- ---- after k fractions: their numerators are made, and none of them reaches the limit
pub record AreMade (den : ℕ) (xs : List Fraction) (k : ℕ) (made : List ℤ) : Type 0 where
  pub numbers : made ≡ numerators den (take k xs)
  pub rest : first_reaching size_limit (numerators den (drop k xs)) ≡ first_reaching size_limit (numerators den xs)

module _ (den : ℕ) (xs : List Fraction) (k : ℕ) (made : List ℤ) (x : Fraction) (n : ℕ) (before : AreMade den xs k made) (within : k < length xs) (is : get_or xs k (whole (pos 0)) ≡ x) (value : pos n ≡ x.num *ℤ pos (den / x.den)) where
  split : numerators den (drop k xs) ≡ pos n ∷ numerators den (drop (k + 1) xs)
  split = ap (numerators den) (drop_more xs k (whole (pos 0)) within ∙ ap (λ y. y ∷ drop (k + 1) xs) is) ∙ ap (λ m. m ∷ numerators den (drop (k + 1) xs)) (sym value)

  pub number_fault : size_limit ≤ n → first_reaching size_limit (numerators den xs) ≡ Some (pos n)
  number_fault l = sym before.rest ∙ ap (first_reaching size_limit) split ∙ reaching_yes (pos n) (numerators den (drop (k + 1) xs)) (le-leb size_limit n l)

  pub number_more : n < size_limit → (after : List ℤ) → after ≡ made ++ pos n ∷ [] → AreMade den xs (k + 1) after
  number_more l after put = record {
    numbers =
        put
        ∙ ap₂ (λ ms m. ms ++ m ∷ []) before.numbers value
        ∙ ap (λ y. numerators den (take k xs) ++ (y.num *ℤ pos (den / y.den)) ∷ []) (sym is)
        ∙ sym (map-append (λ y. y.num *ℤ pos (den / y.den)) (take k xs) (get_or xs k (whole (pos 0)) ∷ []))
        ∙ ap (numerators den) (sym (take_more xs k (whole (pos 0)) within));
    rest = sym (ap (first_reaching size_limit) split ∙ reaching_no (pos n) (numerators den (drop (k + 1) xs)) (lt-leb size_limit n l)) ∙ before.rest;
  }

pub all_made : (den : ℕ) (xs : List Fraction) (k : ℕ) (made : List ℤ) → AreMade den xs k made → length xs ≤ k → (made ≡ numerators den xs) × (first_reaching size_limit (numerators den xs) ≡ None)
all_made den xs k made h l = (
  h.numbers ∙ ap (numerators den) (take_all k xs l),
  sym h.rest ∙ ap (λ ys. first_reaching size_limit (numerators den ys)) (drop_all k xs l),
)

-- ---- the numerators are tried behind the running denominators
found_front : (n : ℤ) (ms ns : List ℤ) → first_reaching size_limit ms ≡ Some n → first_reaching size_limit (ms ++ ns) ≡ Some n
found_front n [] ns e = absurd (none-some n e)
found_front n (m ∷ ms) ns e = go (leb size_limit (nat_abs m)) refl (found_front n ms ns) e
  where
    go : (b : Bool) → leb size_limit (nat_abs m) ≡ b → (first_reaching size_limit ms ≡ Some n → first_reaching size_limit (ms ++ ns) ≡ Some n) → cond b (Some m) (first_reaching size_limit ms) ≡ Some n → first_reaching size_limit (m ∷ (ms ++ ns)) ≡ Some n
    go true f later e = reaching_yes m (ms ++ ns) f ∙ e
    go false f later e = reaching_no m (ms ++ ns) f ∙ later e

pub found_behind : (ms ns : List ℤ) → first_reaching size_limit ms ≡ None → first_reaching size_limit (ms ++ ns) ≡ first_reaching size_limit ns
found_behind [] ns e = refl
found_behind (m ∷ ms) ns e = go (leb size_limit (nat_abs m)) refl (found_behind ms ns) e
  where
    go : (b : Bool) → leb size_limit (nat_abs m) ≡ b → (first_reaching size_limit ms ≡ None → first_reaching size_limit (ms ++ ns) ≡ first_reaching size_limit ns) → cond b (Some m) (first_reaching size_limit ms) ≡ None → first_reaching size_limit (m ∷ (ms ++ ns)) ≡ first_reaching size_limit ns
    go true f later e = absurd (none-some m (sym e))
    go false f later e = reaching_no m (ms ++ ns) f ∙ later e

pub fault_front : (f : RowFault) (ms ns : List ℤ) → IsFault f (first_reaching size_limit ms) → IsFault f (first_reaching size_limit (ms ++ ns))
fault_front (Large n) ms ns e = found_front n ms ns e
fault_front NoMemory ms ns e = tt

pub fault_behind : (f : RowFault) (ms ns : List ℤ) → first_reaching size_limit ms ≡ None → IsFault f (first_reaching size_limit ns) → IsFault f (first_reaching size_limit (ms ++ ns))
fault_behind f ms ns e h = subst (IsFault f) (sym (found_behind ms ns e)) h
