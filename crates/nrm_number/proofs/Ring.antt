-- Equations in a commutative ring, decided by computation: both sides are written as expressions over a list of values,
-- and `solve` compares their sorted monomials. `solve A values e f refl : value of e ≡ value of f`.
use Rattle.std.proofs.Common.{◌≡◌, ℕ, Bool, true, false, cond, ltb, leb, eqb, List, [], ◌∷◌, ◌++◌, map, get_or, refl, sym, ap, ap₂, ◌∙◌}

-- a commutative ring and its laws
pub record Ring : Type 1 where
  pub R : Type 0
  pub nought : R
  pub unit : R
  pub add : R → R → R
  pub mul : R → R → R
  pub neg : R → R
  pub add_assoc : (a b c : R) → add (add a b) c ≡ add a (add b c)
  pub add_comm : (a b : R) → add a b ≡ add b a
  pub add-nought : (a : R) → add a nought ≡ a
  pub add-neg : (a : R) → add a (neg a) ≡ nought
  pub mul_assoc : (a b c : R) → mul (mul a b) c ≡ mul a (mul b c)
  pub mul_comm : (a b : R) → mul a b ≡ mul b a
  pub mul-unit : (a : R) → mul a unit ≡ a
  pub mul-add : (a b c : R) → mul a (add b c) ≡ add (mul a b) (mul a c)

infixl 60 ◌⊕◌ ◌⊖◌
infixl 70 ◌⊗◌
-- an expression over the values of a list, which it names by their places
pub data Expr : Type 0 where
  var : ℕ → Expr
  e0 : Expr
  e1 : Expr
  ◌⊕◌ : Expr → Expr → Expr
  ◌⊗◌ : Expr → Expr → Expr
  minus : Expr → Expr

abbrev pub ◌⊖◌ : Expr → Expr → Expr
a ⊖ b = a ⊕ minus b

abbrev pub v0 : Expr
v0 = var 0

abbrev pub v1 : Expr
v1 = var 1

abbrev pub v2 : Expr
v2 = var 2

abbrev pub v3 : Expr
v3 = var 3

abbrev pub v4 : Expr
v4 = var 4

abbrev pub v5 : Expr
v5 = var 5

abbrev pub v6 : Expr
v6 = var 6

abbrev pub v7 : Expr
v7 = var 7

-- ---- monomials are sorted lists of variables, and a polynomial is two lists of monomials, added and taken away
abbrev insert_var : ℕ → List ℕ → List ℕ
insert_var v [] = v ∷ []
insert_var v (w ∷ m) = cond (leb v w) (v ∷ w ∷ m) (w ∷ insert_var v m)

-- the product of two monomials
abbrev times_mono : List ℕ → List ℕ → List ℕ
times_mono [] m = m
times_mono (v ∷ k) m = insert_var v (times_mono k m)

-- the order of monomials
abbrev before : List ℕ → List ℕ → Bool
before [] m = true
before (v ∷ k) [] = false
before (v ∷ k) (w ∷ m) = cond (ltb v w) true (cond (eqb v w) (before k m) false)

abbrev insert_mono : List ℕ → List (List ℕ) → List (List ℕ)
insert_mono k [] = k ∷ []
insert_mono k (m ∷ ms) = cond (before k m) (k ∷ m ∷ ms) (m ∷ insert_mono k ms)

abbrev sorted : List (List ℕ) → List (List ℕ)
sorted [] = []
sorted (m ∷ ms) = insert_mono m (sorted ms)

-- each monomial times each
abbrev product : List (List ℕ) → List (List ℕ) → List (List ℕ)
product [] ns = []
product (m ∷ ms) ns = map (times_mono m) ns ++ product ms ns

-- the monomials that are added, and those that are taken away
abbrev mutual
  plus_part : Expr → List (List ℕ)
  plus_part (var v) = (v ∷ []) ∷ []
  plus_part e0 = []
  plus_part e1 = [] ∷ []
  plus_part (a ⊕ b) = plus_part a ++ plus_part b
  plus_part (a ⊗ b) = product (plus_part a) (plus_part b) ++ product (minus_part a) (minus_part b)
  plus_part (minus a) = minus_part a

  minus_part : Expr → List (List ℕ)
  minus_part (var v) = []
  minus_part e0 = []
  minus_part e1 = []
  minus_part (a ⊕ b) = minus_part a ++ minus_part b
  minus_part (a ⊗ b) = product (plus_part a) (minus_part b) ++ product (minus_part a) (plus_part b)
  minus_part (minus a) = plus_part a

-- the two sides of an equation, each with no monomial taken away
abbrev pub left_side : Expr → Expr → List (List ℕ)
left_side e f = sorted (plus_part e ++ minus_part f)

module _ (A : Ring) where
  open A use {R, nought, unit, add, mul, neg, add_assoc, add_comm, add-nought, add-neg, mul_assoc, mul_comm, mul-unit, mul-add}

  -- ---- the laws that follow
  nought-add : (a : R) → add nought a ≡ a
  nought-add a = add_comm nought a ∙ add-nought a

  neg-add : (a : R) → add (neg a) a ≡ nought
  neg-add a = add_comm (neg a) a ∙ add-neg a

  -- (a + b) + (c + d) = (a + c) + (b + d)
  swap_inner : (a b c d : R) → add (add a b) (add c d) ≡ add (add a c) (add b d)
  swap_inner a b c d = add_assoc a b (add c d) ∙ ap (add a) (sym (add_assoc b c d) ∙ ap (λ t. add t d) (add_comm b c) ∙ add_assoc c b d) ∙ sym (add_assoc a c (add b d))

  swap_front : (a b c : R) → add a (add b c) ≡ add b (add a c)
  swap_front a b c = sym (add_assoc a b c) ∙ ap (λ t. add t c) (add_comm a b) ∙ add_assoc b a c

  -- one thing alone adds to nought
  neg_unique : (a b : R) → add a b ≡ nought → b ≡ neg a
  neg_unique a b h = sym (nought-add b) ∙ ap (λ t. add t b) (sym (neg-add a)) ∙ add_assoc (neg a) a b ∙ ap (add (neg a)) h ∙ add-nought (neg a)

  neg-neg : (a : R) → neg (neg a) ≡ a
  neg-neg a = sym (neg_unique (neg a) a (neg-add a))

  neg-sum : (a b : R) → neg (add a b) ≡ add (neg a) (neg b)
  neg-sum a b = sym (neg_unique (add a b) (add (neg a) (neg b)) (swap_inner a b (neg a) (neg b) ∙ ap₂ add (add-neg a) (add-neg b) ∙ add-nought nought))

  neg-nought : neg nought ≡ nought
  neg-nought = sym (neg_unique nought nought (add-nought nought))

  cancel_left : (a b c : R) → add a b ≡ add a c → b ≡ c
  cancel_left a b c h = sym (strip b) ∙ ap (add (neg a)) h ∙ strip c
    where
      strip : (x : R) → add (neg a) (add a x) ≡ x
      strip x = sym (add_assoc (neg a) a x) ∙ ap (λ t. add t x) (neg-add a) ∙ nought-add x

  mul-nought : (a : R) → mul a nought ≡ nought
  mul-nought a = sym (cancel_left (mul a nought) nought (mul a nought) (add-nought (mul a nought) ∙ ap (mul a) (sym (add-nought nought)) ∙ mul-add a nought nought))

  nought-mul : (a : R) → mul nought a ≡ nought
  nought-mul a = mul_comm nought a ∙ mul-nought a

  add-mul : (a b c : R) → mul (add a b) c ≡ add (mul a c) (mul b c)
  add-mul a b c = mul_comm (add a b) c ∙ mul-add c a b ∙ ap₂ add (mul_comm c a) (mul_comm c b)

  mul-neg : (a b : R) → mul a (neg b) ≡ neg (mul a b)
  mul-neg a b = neg_unique (mul a b) (mul a (neg b)) (sym (mul-add a b (neg b)) ∙ ap (mul a) (add-neg b) ∙ mul-nought a)

  neg-mul : (a b : R) → mul (neg a) b ≡ neg (mul a b)
  neg-mul a b = mul_comm (neg a) b ∙ mul-neg b a ∙ ap neg (mul_comm b a)

  swap_factors : (a b c : R) → mul a (mul b c) ≡ mul b (mul a c)
  swap_factors a b c = sym (mul_assoc a b c) ∙ ap (λ t. mul t c) (mul_comm a b) ∙ mul_assoc b a c

  -- a - b = c - d where a + d = c + b
  same_difference : (a b c d : R) → add a d ≡ add c b → add a (neg b) ≡ add c (neg d)
  same_difference a b c d h =
      sym (add-nought (add a (neg b)))
      ∙ ap (add (add a (neg b))) (sym (add-neg d))
      ∙ swap_inner a (neg b) d (neg d)
      ∙ ap (λ t. add t (add (neg b) (neg d))) h
      ∙ swap_inner c b (neg b) (neg d)
      ∙ ap (λ t. add (add c (neg b)) t) (add_comm b (neg d))
      ∙ swap_inner c (neg b) (neg d) b
      ∙ ap (λ t. add (add c (neg d)) t) (neg-add b)
      ∙ add-nought (add c (neg d))

  -- ---- values
  abbrev pub value : List R → Expr → R
  value ρ (var v) = get_or ρ v nought
  value ρ e0 = nought
  value ρ e1 = unit
  value ρ (a ⊕ b) = add (value ρ a) (value ρ b)
  value ρ (a ⊗ b) = mul (value ρ a) (value ρ b)
  value ρ (minus a) = neg (value ρ a)

  abbrev mono : List R → List ℕ → R
  mono ρ [] = unit
  mono ρ (v ∷ m) = mul (get_or ρ v nought) (mono ρ m)

  abbrev total : List R → List (List ℕ) → R
  total ρ [] = nought
  total ρ (m ∷ ms) = add (mono ρ m) (total ρ ms)

  mono-pick : (ρ : List R) (v w : ℕ) (m : List ℕ) (b : Bool) → mono ρ (insert_var v m) ≡ mul (get_or ρ v nought) (mono ρ m) → mono ρ (cond b (v ∷ w ∷ m) (w ∷ insert_var v m)) ≡ mul (get_or ρ v nought) (mono ρ (w ∷ m))
  mono-pick ρ v w m true h = refl
  mono-pick ρ v w m false h = ap (mul (get_or ρ w nought)) h ∙ swap_factors (get_or ρ w nought) (get_or ρ v nought) (mono ρ m)

  mono-insert : (ρ : List R) (v : ℕ) (m : List ℕ) → mono ρ (insert_var v m) ≡ mul (get_or ρ v nought) (mono ρ m)
  mono-insert ρ v [] = refl
  mono-insert ρ v (w ∷ m) = mono-pick ρ v w m (leb v w) (mono-insert ρ v m)

  mono-times : (ρ : List R) (k m : List ℕ) → mono ρ (times_mono k m) ≡ mul (mono ρ k) (mono ρ m)
  mono-times ρ [] m = sym (mul_comm unit (mono ρ m) ∙ mul-unit (mono ρ m))
  mono-times ρ (v ∷ k) m =
      mono-insert ρ v (times_mono k m)
      ∙ ap (mul (get_or ρ v nought)) (mono-times ρ k m)
      ∙ sym (mul_assoc (get_or ρ v nought) (mono ρ k) (mono ρ m))

  total-pick : (ρ : List R) (k m : List ℕ) (ms : List (List ℕ)) (b : Bool) → total ρ (insert_mono k ms) ≡ add (mono ρ k) (total ρ ms) → total ρ (cond b (k ∷ m ∷ ms) (m ∷ insert_mono k ms)) ≡ add (mono ρ k) (total ρ (m ∷ ms))
  total-pick ρ k m ms true h = refl
  total-pick ρ k m ms false h = ap (add (mono ρ m)) h ∙ swap_front (mono ρ m) (mono ρ k) (total ρ ms)

  total-insert : (ρ : List R) (k : List ℕ) (ms : List (List ℕ)) → total ρ (insert_mono k ms) ≡ add (mono ρ k) (total ρ ms)
  total-insert ρ k [] = refl
  total-insert ρ k (m ∷ ms) = total-pick ρ k m ms (before k m) (total-insert ρ k ms)

  total-sorted : (ρ : List R) (ms : List (List ℕ)) → total ρ (sorted ms) ≡ total ρ ms
  total-sorted ρ [] = refl
  total-sorted ρ (m ∷ ms) = total-insert ρ m (sorted ms) ∙ ap (add (mono ρ m)) (total-sorted ρ ms)

  total-append : (ρ : List R) (ms ns : List (List ℕ)) → total ρ (ms ++ ns) ≡ add (total ρ ms) (total ρ ns)
  total-append ρ [] ns = sym (nought-add (total ρ ns))
  total-append ρ (m ∷ ms) ns = ap (add (mono ρ m)) (total-append ρ ms ns) ∙ sym (add_assoc (mono ρ m) (total ρ ms) (total ρ ns))

  total-map : (ρ : List R) (k : List ℕ) (ns : List (List ℕ)) → total ρ (map (times_mono k) ns) ≡ mul (mono ρ k) (total ρ ns)
  total-map ρ k [] = sym (mul-nought (mono ρ k))
  total-map ρ k (n ∷ ns) = ap₂ add (mono-times ρ k n) (total-map ρ k ns) ∙ sym (mul-add (mono ρ k) (mono ρ n) (total ρ ns))

  total-product : (ρ : List R) (ms ns : List (List ℕ)) → total ρ (product ms ns) ≡ mul (total ρ ms) (total ρ ns)
  total-product ρ [] ns = sym (nought-mul (total ρ ns))
  total-product ρ (m ∷ ms) ns =
      total-append ρ (map (times_mono m) ns) (product ms ns)
      ∙ ap₂ add (total-map ρ m ns) (total-product ρ ms ns)
      ∙ sym (add-mul (mono ρ m) (total ρ ms) (total ρ ns))

  -- (p - n)(q - m) = (p q + n m) - (p m + n q)
  times_parts : (p n q m : R) → mul (add p (neg n)) (add q (neg m)) ≡ add (add (mul p q) (mul n m)) (neg (add (mul p m) (mul n q)))
  times_parts p n q m =
      add-mul p (neg n) (add q (neg m))
      ∙ ap₂ add (mul-add p q (neg m) ∙ ap (add (mul p q)) (mul-neg p m)) (mul-add (neg n) q (neg m) ∙ ap₂ add (neg-mul n q) (neg-mul n (neg m) ∙ ap neg (mul-neg n m) ∙ neg-neg (mul n m)) ∙ add_comm (neg (mul n q)) (mul n m))
      ∙ swap_inner (mul p q) (neg (mul p m)) (mul n m) (neg (mul n q))
      ∙ ap (add (add (mul p q) (mul n m))) (sym (neg-sum (mul p m) (mul n q)))

  plus_parts : (p n q m : R) → add (add p (neg n)) (add q (neg m)) ≡ add (add p q) (neg (add n m))
  plus_parts p n q m = swap_inner p (neg n) q (neg m) ∙ ap (add (add p q)) (sym (neg-sum n m))

  value-parts : (ρ : List R) (e : Expr) → value ρ e ≡ add (total ρ (plus_part e)) (neg (total ρ (minus_part e)))
  value-parts ρ (var v) = sym (ap₂ add (add-nought (mul (get_or ρ v nought) unit) ∙ mul-unit (get_or ρ v nought)) neg-nought ∙ add-nought (get_or ρ v nought))
  value-parts ρ e0 = sym (ap (add nought) neg-nought ∙ add-nought nought)
  value-parts ρ e1 = sym (ap₂ add (add-nought unit) neg-nought ∙ add-nought unit)
  value-parts ρ (a ⊕ b) =
      ap₂ add (value-parts ρ a) (value-parts ρ b)
      ∙ plus_parts (total ρ (plus_part a)) (total ρ (minus_part a)) (total ρ (plus_part b)) (total ρ (minus_part b))
      ∙ sym (ap₂ add (total-append ρ (plus_part a) (plus_part b)) (ap neg (total-append ρ (minus_part a) (minus_part b))))
  value-parts ρ (a ⊗ b) =
      ap₂ mul (value-parts ρ a) (value-parts ρ b)
      ∙ times_parts (total ρ (plus_part a)) (total ρ (minus_part a)) (total ρ (plus_part b)) (total ρ (minus_part b))
      ∙ sym (ap₂ add
      (total-append ρ (product (plus_part a) (plus_part b)) (product (minus_part a) (minus_part b)) ∙ ap₂ add (total-product ρ (plus_part a) (plus_part b)) (total-product ρ (minus_part a) (minus_part b)))
      (ap neg (total-append ρ (product (plus_part a) (minus_part b)) (product (minus_part a) (plus_part b)) ∙ ap₂ add (total-product ρ (plus_part a) (minus_part b)) (total-product ρ (minus_part a) (plus_part b)))))
  value-parts ρ (minus a) =
      ap neg (value-parts ρ a)
      ∙ neg-sum (total ρ (plus_part a)) (neg (total ρ (minus_part a)))
      ∙ ap (add (neg (total ρ (plus_part a)))) (neg-neg (total ρ (minus_part a)))
      ∙ add_comm (neg (total ρ (plus_part a))) (total ρ (minus_part a))

  pub solve : (ρ : List R) (e f : Expr) → left_side e f ≡ left_side f e → value ρ e ≡ value ρ f
  solve ρ e f h =
      value-parts ρ e
      ∙ same_difference (total ρ (plus_part e)) (total ρ (minus_part e)) (total ρ (plus_part f)) (total ρ (minus_part f))
      (sym (total-append ρ (plus_part e) (minus_part f))
      ∙ sym (total-sorted ρ (plus_part e ++ minus_part f))
      ∙ ap (total ρ) h
      ∙ total-sorted ρ (plus_part f ++ minus_part e)
      ∙ total-append ρ (plus_part f) (minus_part e))
      ∙ sym (value-parts ρ f)
