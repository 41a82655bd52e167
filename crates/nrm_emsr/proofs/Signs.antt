-- Which fares aren't negative: those of the buckets above the last.
use Rattle.std.proofs.Common.{ap, refl, if◌then◌else◌, ◌∙◌, ℕ, ◌≡◌, ◌<◌, ◌≤◌, ◌+◌, ◌*◌, Bool, true, false, List, [], ◌∷◌, length, map, filter, nat_abs, arith, inl, inr, ℤ, pos, negsuc, ◌*ℤ◌, ◌+ℤ◌, int_lt}
use Rattle.std.proofs.lemmas.Bool.{cases_Bool}
use Rattle.std.proofs.lemmas.List.Sums.{sum_by-cons}
use Rattle.std.specs.List.{count_by}
use Rattle.std.specs.Int.{is_in_range}
use Rattle.nrm_model.specs.Network.{NetworkValue, leg_of}
use Rattle.nrm_model.specs.Inventory.{inventory_of, products_on}
use Rattle.nrm_model.specs.Demand.{total_to_come}
use Rattle.nrm_lp.specs.declared.certificate.Certificate.{Certificate}
use Rattle.nrm_virtual.specs.Adjusted.{adjusted_fare}
use Rattle.nrm_virtual.specs.Buckets.{bucket_count, bucket_of}
use Rattle.nrm_emsr.specs.Fares.{sum_of, weighted_fares}

-- a number that isn't negative
abbrev pub IsNat : ℤ → Type 0
IsNat z = (n : ℕ) × (z ≡ pos n)

pub nat-or-not : (z : ℤ) → int_lt z (pos 0) ≡ false → IsNat z
nat-or-not (pos n) h = (n, refl)
nat-or-not (negsuc n) h = let no : true ≡ false = h in cc

above-nat : (z : ℤ) (c : ℕ) → int_lt z (pos c) ≡ false → IsNat z
above-nat (pos n) c h = (n, refl)
above-nat (negsuc n) c h = let no : true ≡ false = h in cc

times-nat : (z : ℤ) (n : ℕ) → IsNat z → IsNat (z *ℤ pos n)
times-nat z n (m, e) = (m * n, ap (λ x. x *ℤ pos n) e)

plus-nat : (x y : ℤ) → IsNat x → IsNat y → IsNat (x +ℤ y)
plus-nat x y (m, e) (n, f) = (m + n, ap (λ z. z +ℤ y) e ∙ ap (λ z. pos m +ℤ z) f)

-- a sum over those that pass a test
chosen-nat : (p : ℕ → Bool) (f : ℕ → ℤ) (xs : List ℕ) → ((x : ℕ) → p x ≡ true → IsNat (f x)) → IsNat (sum_of (map f (filter p xs)))
chosen-nat p f [] h = (0, refl)
chosen-nat p f (x ∷ xs) h =
    elim (cases_Bool (p x)) [
      | inl e ↦ rw e (plus-nat (f x) (sum_of (map f (filter p xs))) (h x e) (chosen-nat p f xs h))
      | inr e ↦ rw e (chosen-nat p f xs h)
    ]

pub counted : (t : ℕ → Bool) (x : ℕ) (xs : List ℕ) (b : Bool) → t x ≡ b → count_by t (x ∷ xs) ≡ (if b then 1 else 0) + count_by t xs
counted t x xs b e = sum_by-cons (λ y. if t y then 1 else 0) x xs ∙ ap (λ c. (if c then 1 else 0) + count_by t xs) e

-- fewer are counted than there are, so one isn't
one-not : (t : ℕ → Bool) (xs : List ℕ) → count_by t xs < length xs → (x : ℕ) × (t x ≡ false)
one-not t [] h = absurd (omega (arith, h))
one-not t (x ∷ xs) h =
    elim (cases_Bool (t x)) [
      | inl e ↦ one-not t xs (omega (arith, h, counted t x xs true e))
      | inr e ↦ (x, e)
    ]

in-or-above : (first last n : ℕ) → is_in_range first last n ≡ true → n ≤ last
in-or-above first last n h = grind (arith, h)

module _ (net : NetworkValue) (cert : Certificate) (i k : ℕ) where
  -- a product that isn't in the last bucket has a fare that isn't below some threshold
  fare-nat : (first last j : ℕ) → last < bucket_count net i → is_in_range first last (bucket_of net cert i j) ≡ true → IsNat (adjusted_fare net cert i j)
  fare-nat first last j lower here =
      let above : bucket_of net cert i j ≤ last = in-or-above first last (bucket_of net cert i j) here in
      let (cut, e) = one-not (λ cut. int_lt (adjusted_fare net cert i j) (pos (cut * nat_abs cert.den))) (leg_of net i).cuts (omega (arith, above, lower)) in
      above-nat (adjusted_fare net cert i j) (cut * nat_abs cert.den) e

  pub weighted-nat : (first last : ℕ) → last < bucket_count net i → IsNat (weighted_fares net cert i k first last)
  weighted-nat first last lower =
      chosen-nat (λ j. is_in_range first last (bucket_of net cert i j)) (λ j. adjusted_fare net cert i j *ℤ pos (total_to_come net j k)) (products_on (inventory_of net) i)
      (λ j here. times-nat (adjusted_fare net cert i j) (total_to_come net j k) (fare-nat first last j lower here))
