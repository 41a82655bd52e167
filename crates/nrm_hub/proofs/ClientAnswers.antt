-- The lines of one client among those that were answered.
use Rattle.std.proofs.Common.{ℕ, ◌≡◌, ◌≢◌, ◌∙◌, ◌==◌, ◌⊎◌, true, false, List, [], ◌∷◌, ◌++◌, take, drop, refl, sym, ap, subst, arith}
use Rattle.std.proofs.Common.{inl, inr, append-nil, append_assoc}
use Rattle.std.proofs.lemmas.Bool.{cases_Bool}
use Rattle.std.proofs.lemmas.Bool.Decides.{nat_tests}
use Rattle.std.proofs.lemmas.Grind.{flat_map-append}
use Rattle.std.proofs.lemmas.List.{map-append, take-append-drop}
use Rattle.std.proofs.lemmas.List.Elements.{filter-append}
use Rattle.nrm_hub.specs.Desks.{IsFrontOf, lines_in, of_client, told_in}
use Rattle.nrm_hub.specs.World.{Exchange, at_one}

-- ---- fronts
pub front-self : {A : Type 0} (xs : List A) → IsFrontOf xs xs
front-self xs = ([], sym (append-nil xs))

pub front-longer : {A : Type 0} (front xs more : List A) → IsFrontOf front xs → IsFrontOf front (xs ++ more)
front-longer front xs more (rest, is) = (rest ++ more, ap (λ l. l ++ more) is ∙ append_assoc front rest more)

-- ---- a function that is changed at one number
-- it is the number or another
pub is-or-not : (k j : ℕ) → (((k == j) ≡ true) × (k ≡ j)) ⊎ (((k == j) ≡ false) × (k ≢ j))
is-or-not k j = elim (cases_Bool (k == j)) [
  | inl e ↦ inl (e, grind (arith, nat_tests))
  | inr e ↦ inr (e, λ is. grind (arith, nat_tests))
]

pub at-same : {A : Type 0} (f : ℕ → A) (k : ℕ) (a : A) → at_one f k a k ≡ a
at-same f k a = let e : (k == k) ≡ true = grind (arith, nat_tests) in rw e refl

pub at-other : {A : Type 0} (f : ℕ → A) (k j : ℕ) (a : A) → j ≢ k → at_one f k a j ≡ f j
at-other f k j a differ = elim (is-or-not k j) [
  | inl (e, is) ↦ absurd (differ (sym is))
  | inr (e, is) ↦ rw e refl
]

-- what holds at the number and at the others
pub at-each : {A : Type 0} (f : ℕ → A) (k : ℕ) (a : A) (P : ℕ → A → Type 0) → P k a → ((j : ℕ) → P j (f j))
    → (j : ℕ) → P j (at_one f k a j)
at-each f k a P one others j = elim (is-or-not k j) [
  | inl (e, is) ↦ rw e (subst (λ (n : ℕ). P n a) is one)
  | inr (e, is) ↦ rw e (others j)
]

-- ---- lines that were answered
pub lines_in-joined : (answered more : List Exchange) → lines_in (answered ++ more) ≡ lines_in answered ++ lines_in more
lines_in-joined answered more = map-append (λ (e : Exchange). e.line) answered more

pub told_in-joined : (answered more : List Exchange) → told_in (answered ++ more) ≡ told_in answered ++ told_in more
told_in-joined answered more = flat_map-append (λ (e : Exchange). e.text) answered more

pub told_in-more : (answered : List Exchange) (e : Exchange) → told_in (answered ++ e ∷ []) ≡ told_in answered ++ e.text
told_in-more answered e = told_in-joined answered (e ∷ []) ∙ ap (λ (t : List ℕ). told_in answered ++ t) (append-nil e.text)

pub of_client-joined : (k : ℕ) (answered more : List Exchange)
    → of_client k (answered ++ more) ≡ of_client k answered ++ of_client k more
of_client-joined k answered more = filter-append (λ (e : Exchange). e.client == k) answered more

-- one more line is its client's, and no other's
pub of_client-own : (answered : List Exchange) (e : Exchange)
    → of_client e.client (answered ++ e ∷ []) ≡ of_client e.client answered ++ e ∷ []
of_client-own answered e =
    let one : of_client e.client (e ∷ []) ≡ e ∷ [] = let own : (e.client == e.client) ≡ true = grind (arith, nat_tests) in rw own refl in
    of_client-joined e.client answered (e ∷ []) ∙ ap (λ (l : List Exchange). of_client e.client answered ++ l) one

pub of_client-other : (k : ℕ) (answered : List Exchange) (e : Exchange) → (e.client == k) ≡ false
    → of_client k (answered ++ e ∷ []) ≡ of_client k answered
of_client-other k answered e other =
    let none : of_client k (e ∷ []) ≡ [] = rw other refl in
    of_client-joined k answered (e ∷ []) ∙ ap (λ (l : List Exchange). of_client k answered ++ l) none
    ∙ append-nil (of_client k answered)

-- a front of the replies to the first lines of a client is one of the replies to all
pub front-of_all : (k count : ℕ) (answered : List Exchange) (sent : List ℕ)
    → IsFrontOf sent (told_in (of_client k (take count answered))) → IsFrontOf sent (told_in (of_client k answered))
front-of_all k count answered sent front =
    let first : List Exchange = of_client k (take count answered) in
    let later : List Exchange = of_client k (drop count answered) in
    let split : of_client k answered ≡ first ++ later =
    ap (λ (l : List Exchange). of_client k l) (sym (take-append-drop count answered))
    ∙ of_client-joined k (take count answered) (drop count answered) in
    subst (λ (t : List ℕ). IsFrontOf sent t) (sym (ap (λ (l : List Exchange). told_in l) split ∙ told_in-joined first later))
    (front-longer sent (told_in first) (told_in later) front)
