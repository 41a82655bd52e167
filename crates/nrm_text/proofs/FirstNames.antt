-- The name before the first byte of a kind, from the bytes at the front that may stand in a name.
use Rattle.std.proofs.Common.{ℕ, ◌≡◌, ◌⊎◌, ◌+◌, ◌<◌, ◌≤◌, ◌==◌, Bool, true, false, nat_le, List, length, take, drop, get_or, Option, Some}
use Rattle.std.proofs.Common.{None, refl, sym, subst, arith, inl, inr}
use Rattle.std.specs.List.{list_all, position}
use Rattle.std.proofs.lemmas.Bool.{and_from, and_left, and_right, both_ways, cases_Bool, cases_lt, eqb-true, eq-eqb, le-leb, lt-leb}
use Rattle.std.proofs.lemmas.List.{get_or-take, length-take-le}
use Rattle.std.proofs.lemmas.List.Folds.{list_all_at}
use Rattle.std.proofs.lemmas.List.Sums.{AllPass-from_list_all, passes_at_first}
use Rattle.nrm_text.proofs.Places.{found, placed}
use Rattle.nrm_text.specs.Names.{is_name, is_name_byte, name_before, name_in}

no-name : (bytes : List ℕ) → is_name bytes ≡ false → name_in bytes ≡ None
no-name bytes e = rw e refl

a-name : (bytes : List ℕ) → is_name bytes ≡ true → name_in bytes ≡ Some bytes
a-name bytes e = rw e refl

module _ (end : ℕ) (xs : List ℕ) (n : ℕ) (within : n ≤ length xs) (few : n ≤ 12) (may_stand : list_all is_name_byte (take n xs) ≡ true)
    (stops : n < 12 → n < length xs → is_name_byte (get_or xs n 0) ≡ false) (apart : is_name_byte end ≡ false) where
  abbrev is_end : ℕ → Bool
  is_end c = c == end

  name-byte : (k : ℕ) → k < n → is_name_byte (get_or xs k 0) ≡ true
  name-byte k short =
      let long : length (take n xs) ≡ n = length-take-le n xs within in
      subst (λ c. is_name_byte c ≡ true) (get_or-take n xs k 0 short) (AllPass-from_list_all is_name_byte (take n xs) may_stand k 0
      (omega (arith, long)))

  not-end : (k : ℕ) → k < n → is_end (get_or xs k 0) ≡ false
  not-end k short =
      elim (cases_Bool (is_end (get_or xs k 0))) [
        | inl e ↦ absurd (both_ways (is_name_byte end) apart (subst (λ c. is_name_byte c ≡ true) (eqb-true (get_or xs k 0) end e)
            (name-byte k short)))
        | inr e ↦ e
      ]

  -- the byte behind them is the one
  pub name-ended : 1 ≤ n → n < length xs → get_or xs n 0 ≡ end → name_before end xs ≡ Some (take n xs, drop (n + 1) xs)
  name-ended some more ends =
      let long : length (take n xs) ≡ n = length-take-le n xs within in
      let low : nat_le 1 (length (take n xs)) ≡ true = le-leb 1 (length (take n xs)) (omega (arith, long)) in
      let high : nat_le (length (take n xs)) 12 ≡ true = le-leb (length (take n xs)) 12 (omega (arith, long)) in
      let name : is_name (take n xs) ≡ true = and_from _ _ (and_from _ _ low high) may_stand in
      rw (placed is_end xs n more not-end (eq-eqb (get_or xs n 0) end ends)) (rw (a-name (take n xs) name) refl)

  -- or it isn't, or there are none before it
  stands-elsewhere : (i : ℕ) → position is_end xs ≡ Some i → (n ≡ 0) ⊎ ((n ≡ length xs) ⊎ (get_or xs n 0 ≡ end → ⊥)) → is_name (take i xs)
      ≡ false
  stands-elsewhere i is why =
      let (first, inside) = found is_end xs i is in
      let passes : is_end (get_or xs i 0) ≡ true =
      subst (λ k. is_end (get_or xs k 0) ≡ true) first (passes_at_first is_end xs 0 (omega arith)) in
      let long : length (take i xs) ≡ i = length-take-le i xs (omega arith) in
      elim (cases_lt i n) [
        | inl early ↦ absurd (both_ways (is_end (get_or xs i 0)) (not-end i early) passes)
        | inr late ↦ elim (cases_lt n i) [
          | inl later ↦ elim (cases_lt n 12) [
            | inl short ↦ and_right _ _ (list_all_at is_name_byte (take i xs) n 0 (omega (arith, long))
                (subst (λ c. is_name_byte c ≡ false) (sym (get_or-take i xs n 0 later)) (stops short (omega arith))))
            | inr full ↦ and_left _ _ (and_right _ _ (lt-leb (length (take i xs)) 12 (omega (arith, long))))
          ]
          | inr here ↦ elim why [
            | inl none ↦ and_left _ _ (and_left _ _ (lt-leb 1 (length (take i xs)) (omega (arith, long))))
            | inr (inl all) ↦ absurd (omega arith)
            | inr (inr other) ↦ absurd (other (eqb-true (get_or xs n 0) end
                (subst (λ k. is_end (get_or xs k 0) ≡ true) (omega arith) passes)))
          ]
        ]
      ]

  pub name-missing : (n ≡ 0) ⊎ ((n ≡ length xs) ⊎ (get_or xs n 0 ≡ end → ⊥)) → name_before end xs ≡ None
  name-missing why = by (position is_end xs) refl
    where
      by : (o : Option ℕ) → position is_end xs ≡ o → name_before end xs ≡ None
      by None e = rw e refl
      by (Some i) e = rw e (rw (no-name (take i xs) (stands-elsewhere i e why)) refl)
