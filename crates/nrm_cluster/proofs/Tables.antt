-- The table gives the chosen division.
use Rattle.std.proofs.Common.{◌≡◌, ℕ, zero, suc, ◌+◌, ◌-◌, ◌<◌, ◌≤◌, ◌⊎◌, arith, inl, inr, refl, sym, ap, ap₂, subst, ◌∙◌, List, [], ◌∷◌, length, Option, Some, None, nat_lt}
use Rattle.std.specs.Option.{option_map}
use Rattle.std.proofs.lemmas.Bool.{cases_Bool, cases_lt, ltb-true, ltb-false}
use Rattle.std.proofs.lemmas.List.Sums.{sum_by-cons}
use Rattle.std.proofs.lemmas.List.Elements.{All-cons, All-head, All-tail, All-nil}
use Rattle.nrm_cluster.specs.Points.{PointsValue}
use Rattle.nrm_cluster.specs.Divisions.{piece_cost, IsDivision, division_cost, IsNoLater, IsNoWorse, IsChosen}
use Rattle.nrm_cluster.specs.Inner.Table.{Costed, cheapest, led_by, best_into, best_division, into_pieces}

-- ---- the first of the cheapest
pub record IsCheapest (f : ℕ → Option Costed) (n : ℕ) (d : Costed) : Type 0 where
  pub place : ℕ
  pub above : 0 < place
  pub within : place ≤ n
  pub is : f place ≡ Some d
  pub best : (l : ℕ) (e : Costed) → 0 < l → l ≤ n → f l ≡ Some e → (d.cost < e.cost) ⊎ ((d.cost ≡ e.cost) × (place ≤ l))

pub cheapest-none : (f : ℕ → Option Costed) (n : ℕ) → cheapest f n ≡ None → (l : ℕ) → 0 < l → l ≤ n → f l ≡ None
cheapest-none f zero h l some few = absurd (omega arith)
cheapest-none f (suc n) h l some few = go (cheapest f n) refl (f (suc n)) refl (λ e. cheapest-none f n e l some)
  where
    go : (o : Option Costed) → cheapest f n ≡ o → (q : Option Costed) → f (suc n) ≡ q → (cheapest f n ≡ None → l ≤ n → f l ≡ None) → f l ≡ None
    go None e None g rest = elim (cases_lt l (suc n)) [
      | inl less ↦ rest e (omega arith)
      | inr more ↦ let same : l ≡ suc n = omega arith in ap f same ∙ g
    ]
    go None e (Some b) g rest = let no : cheapest f (suc n) ≡ Some b = rw (e, g) refl in cc
    go (Some a) e None g rest = let no : cheapest f (suc n) ≡ Some a = rw (e, g) refl in cc
    go (Some a) e (Some b) g rest = elim (cases_Bool (nat_lt b.cost a.cost)) [
      | inl t ↦ let no : cheapest f (suc n) ≡ Some b = rw (e, g, t) refl in cc
      | inr t ↦ let no : cheapest f (suc n) ≡ Some a = rw (e, g, t) refl in cc
    ]

-- the last one is the cheapest where it costs less than all before it
last-cheapest : (f : ℕ → Option Costed) (n : ℕ) (b : Costed) → f (suc n) ≡ Some b → ((l : ℕ) (e : Costed) → 0 < l → l ≤ n → f l ≡ Some e → b.cost < e.cost) → IsCheapest f (suc n) b
last-cheapest f n b g before = record {
  place = suc n;
  above = omega arith;
  within = omega arith;
  is = g;
  best = λ l e some few h. elim (cases_lt l (suc n)) [
    | inl less ↦ inl (before l e some (omega arith) h)
    | inr more ↦
        let same : l ≡ suc n = omega arith in
        let there : f (suc n) ≡ Some e = ap f (sym same) ∙ h in
        let equal : b ≡ e = cc in
        inr (ap (λ (x : Costed). x.cost) equal, omega arith)
  ];
}

earlier-cheapest : (f : ℕ → Option Costed) (n : ℕ) (a : Costed) → IsCheapest f n a → ((e : Costed) → f (suc n) ≡ Some e → a.cost ≤ e.cost) → IsCheapest f (suc n) a
earlier-cheapest f n a is last = record {
  place = is.place;
  above = is.above;
  within = omega (arith, is.within);
  is = is.is;
  best = λ l e some few h. elim (cases_lt l (suc n)) [
    | inl less ↦ is.best l e some (omega arith) h
    | inr more ↦
        let same : l ≡ suc n = omega arith in
        let there : f (suc n) ≡ Some e = ap f (sym same) ∙ h in
        let no-more = last e there in
        elim (cases_lt a.cost e.cost) [
          | inl cheap ↦ inl cheap
          | inr dear ↦ inr (omega arith, omega (arith, is.within))
        ]
  ];
}

pub cheapest-some : (f : ℕ → Option Costed) (n : ℕ) (d : Costed) → cheapest f n ≡ Some d → IsCheapest f n d
cheapest-some f zero d h = cc
cheapest-some f (suc n) d h = go (cheapest f n) refl (f (suc n)) refl (cheapest-some f n)
  where
    go : (o : Option Costed) → cheapest f n ≡ o → (q : Option Costed) → f (suc n) ≡ q → ((c : Costed) → cheapest f n ≡ Some c → IsCheapest f n c) → IsCheapest f (suc n) d
    go None e None g rest = let no : cheapest f (suc n) ≡ None = rw (e, g) refl in cc
    go None e (Some b) g rest =
        let got : cheapest f (suc n) ≡ Some b = rw (e, g) refl in
        let same : b ≡ d = cc in
        subst (IsCheapest f (suc n)) same (last-cheapest f n b g (λ l c some few there. let gone = cheapest-none f n e l some few in cc))
    go (Some a) e None g rest =
        let got : cheapest f (suc n) ≡ Some a = rw (e, g) refl in
        let same : a ≡ d = cc in
        subst (IsCheapest f (suc n)) same (earlier-cheapest f n a (rest a e) (λ c there. cc))
    go (Some a) e (Some b) g rest = elim (cases_Bool (nat_lt b.cost a.cost)) [
      | inl t ↦
          let got : cheapest f (suc n) ≡ Some b = rw (e, g, t) refl in
          let same : b ≡ d = cc in
          let less = ltb-true b.cost a.cost t in
          subst (IsCheapest f (suc n)) same (last-cheapest f n b g (λ l c some few there. elim ((rest a e).best l c some few there) [ inl cheap ↦ omega arith | inr (equal, _) ↦ omega arith ]))
      | inr t ↦
          let got : cheapest f (suc n) ≡ Some a = rw (e, g, t) refl in
          let same : a ≡ d = cc in
          let no-less = ltb-false b.cost a.cost t in
          subst (IsCheapest f (suc n)) same (earlier-cheapest f n a (rest a e) (λ c there. let equal : b ≡ c = cc in omega (arith, ap (λ (x : Costed). x.cost) equal)))
    ]

-- ---- divisions, one piece and the rest
head-within : (n l : ℕ) (ls : List ℕ) → IsDivision n (l ∷ ls) → (0 < l) × (l ≤ n)
head-within n l ls is = (All-head (λ l. 0 < l) l ls is.some, omega (arith, is.whole, sum_by-cons (λ x. x) l ls))

rest-divides : (n l : ℕ) (ls : List ℕ) → IsDivision n (l ∷ ls) → IsDivision (n - l) ls
rest-divides n l ls is = record { some = All-tail (λ l. 0 < l) l ls is.some; whole = omega (arith, is.whole, sum_by-cons (λ x. x) l ls) }

led-divides : (n l : ℕ) (ls : List ℕ) → 0 < l → l ≤ n → IsDivision (n - l) ls → IsDivision n (l ∷ ls)
led-divides n l ls some few is = record { some = All-cons (λ l. 0 < l) l ls some is.some; whole = omega (arith, is.whole, sum_by-cons (λ x. x) l ls) }

-- ---- the best division into so many pieces
pub record IsBestInto (p : PointsValue) (pieces a n : ℕ) (d : Costed) : Type 0 where
  pub division : IsDivision n d.lengths
  pub count : length d.lengths ≡ pieces
  pub costs : d.cost ≡ division_cost p a d.lengths
  pub best : (other : List ℕ) → IsDivision n other → length other ≡ pieces → (d.cost < division_cost p a other) ⊎ ((d.cost ≡ division_cost p a other) × IsNoLater d.lengths other)

abbrev pub leading : PointsValue → ℕ → ℕ → ℕ → ℕ → Option Costed
leading p pieces a n l = option_map (led_by p a l) (best_into p pieces (a + l) (n - l))

pub into-none : (p : PointsValue) (pieces a n : ℕ) → best_into p pieces a n ≡ None → (other : List ℕ) → IsDivision n other → length other ≡ pieces → ⊥
into-none p zero a zero h other is count = cc
into-none p zero a (suc n) h [] is count = omega (arith, is.whole)
into-none p zero a (suc n) h (l ∷ ls) is count = omega arith
into-none p (suc pieces) a n h [] is count = omega arith
into-none p (suc pieces) a n h (l ∷ ls) is count = go (best_into p pieces (a + l) (n - l)) refl (λ e. into-none p pieces (a + l) (n - l) e ls (rest-divides n l ls is) (omega arith))
  where
    within : (0 < l) × (l ≤ n)
    within = head-within n l ls is

    none : leading p pieces a n l ≡ None
    none = cheapest-none (leading p pieces a n) n h l within.0 within.1

    go : (o : Option Costed) → best_into p pieces (a + l) (n - l) ≡ o → (best_into p pieces (a + l) (n - l) ≡ None → ⊥) → ⊥
    go None e rest = rest e
    go (Some d) e rest = let some : leading p pieces a n l ≡ Some (led_by p a l d) = rw e refl in let no = none in cc

-- the first of the cheapest leading pieces, before the best rest
led-best : (p : PointsValue) (pieces a n : ℕ) (d e : Costed) (is : IsCheapest (leading p pieces a n) n d) → best_into p pieces (a + is.place) (n - is.place) ≡ Some e → d ≡ led_by p a is.place e → IsBestInto p pieces (a + is.place) (n - is.place) e
    → ((l : ℕ) (c : Costed) → best_into p pieces (a + l) (n - l) ≡ Some c → IsBestInto p pieces (a + l) (n - l) c) → ((l : ℕ) → best_into p pieces (a + l) (n - l) ≡ None → (other : List ℕ) → IsDivision (n - l) other → length other ≡ pieces → ⊥)
    → (other : List ℕ) → IsDivision n other → length other ≡ suc pieces → (d.cost < division_cost p a other) ⊎ ((d.cost ≡ division_cost p a other) × IsNoLater d.lengths other)
led-best p pieces a n d e is there same into rests nones [] div count = absurd (omega arith)
led-best p pieces a n d e is there same into rests nones (l ∷ ls) div count = go (best_into p pieces (a + l) (n - l)) refl
  where
    within : (0 < l) × (l ≤ n)
    within = head-within n l ls div

    go : (o : Option Costed) → best_into p pieces (a + l) (n - l) ≡ o → (d.cost < division_cost p a (l ∷ ls)) ⊎ ((d.cost ≡ division_cost p a (l ∷ ls)) × IsNoLater d.lengths (l ∷ ls))
    go None g = absurd (nones l g ls (rest-divides n l ls div) (omega arith))
    go (Some c) g =
        let led : leading p pieces a n l ≡ Some (led_by p a l c) = rw g refl in
        let here = is.best l (led_by p a l c) within.0 within.1 led in
        let later = (rests l c g).best ls (rest-divides n l ls div) (omega arith) in
        elim here [
          | inl less ↦ inl (elim later [ inl cheap ↦ omega arith | inr (equal, _) ↦ omega arith ])
          | inr (tie, early) ↦ elim later [
            | inl cheap ↦ inl (omega arith)
            | inr (equal, no-later) ↦
                inr (
                  omega arith,
                  subst (λ (x : Costed). IsNoLater x.lengths (l ∷ ls)) (sym same) (elim (cases_lt is.place l) [
                    | inl before ↦ inl before
                    | inr at ↦
                        let place : is.place ≡ l = omega arith in
                        let moved : best_into p pieces (a + is.place) (n - is.place) ≡ best_into p pieces (a + l) (n - l) = ap (λ k. best_into p pieces (a + k) (n - k)) place in
                        let equals : c ≡ e = cc in
                        inr (place, subst (λ (x : Costed). IsNoLater x.lengths ls) equals no-later)
                  ]),
                )
          ]
        ]

pub into-some : (p : PointsValue) (pieces a n : ℕ) (d : Costed) → best_into p pieces a n ≡ Some d → IsBestInto p pieces a n d
into-some p zero a zero d h =
    let same : record { cost = 0; lengths = [] } ≡ d = cc in
    subst (IsBestInto p 0 a 0) same (record {
      division = record { some = All-nil (λ l. 0 < l); whole = refl };
      count = refl;
      costs = refl;
      best = λ other is count. inr (nothing other count, tt);
    })
  where
    nothing : (other : List ℕ) → length other ≡ 0 → 0 ≡ division_cost p a other
    nothing [] h = refl
    nothing (l ∷ ls) h = absurd (omega arith)
into-some p zero a (suc n) d h = cc
into-some p (suc pieces) a n d h = go (best_into p pieces (a + is.place) (n - is.place)) refl (λ l c g. into-some p pieces (a + l) (n - l) c g)
  where
    is : IsCheapest (leading p pieces a n) n d
    is = cheapest-some (leading p pieces a n) n d h

    go : (o : Option Costed) → best_into p pieces (a + is.place) (n - is.place) ≡ o → ((l : ℕ) (c : Costed) → best_into p pieces (a + l) (n - l) ≡ Some c → IsBestInto p pieces (a + l) (n - l) c) → IsBestInto p (suc pieces) a n d
    go None g rests = let no : leading p pieces a n is.place ≡ None = rw g refl in let yes = is.is in cc
    go (Some e) g rests =
        let led : leading p pieces a n is.place ≡ Some (led_by p a is.place e) = rw g refl in
        let there = is.is in
        let same : d ≡ led_by p a is.place e = cc in
        let into = rests is.place e g in
        let best = led-best p pieces a n d e is g same into rests (λ l none. into-none p pieces (a + l) (n - l) none) in
        record {
          division = subst (λ (x : Costed). IsDivision n x.lengths) (sym same) (led-divides n is.place e.lengths is.above is.within into.division);
          count = ap (λ (x : Costed). length x.lengths) same ∙ ap suc into.count;
          costs = subst (λ (x : Costed). x.cost ≡ division_cost p a x.lengths) (sym same) (ap (λ t. piece_cost p a is.place + t) into.costs);
          best = best;
        }

-- ---- the best division into at most so many
-- best divisions into each number of pieces
pub record AreBest (p : PointsValue) (into : ℕ → Option Costed) : Type 0 where
  pub somes : (pieces : ℕ) (d : Costed) → into pieces ≡ Some d → IsBestInto p pieces 0 (length p.values) d
  pub nones : (pieces : ℕ) → into pieces ≡ None → (other : List ℕ) → IsDivision (length p.values) other → length other ≡ pieces → ⊥

chosen-best : (p : PointsValue) (into : ℕ → Option Costed) (groups : ℕ) (d : Costed) → 0 < length p.values → AreBest p into → (is : IsCheapest into groups d) → IsBestInto p is.place 0 (length p.values) d → (other : List ℕ) → IsDivision (length p.values) other → length other ≤ groups → IsNoWorse p d.lengths other
chosen-best p into groups d some are is this [] div few = absurd (omega (arith, div.whole))
chosen-best p into groups d some are is this (l ∷ ls) div few = go (into (length (l ∷ ls))) refl
  where
    go : (o : Option Costed) → into (length (l ∷ ls)) ≡ o → IsNoWorse p d.lengths (l ∷ ls)
    go None g = absurd (are.nones (length (l ∷ ls)) g (l ∷ ls) div refl)
    go (Some e) g =
        let here = is.best (length (l ∷ ls)) e (omega arith) few g in
        let later = (are.somes (length (l ∷ ls)) e g).best (l ∷ ls) div refl in
        elim here [
          | inl less ↦ inl (elim later [ inl cheap ↦ omega (arith, this.costs) | inr (equal, _) ↦ omega (arith, this.costs) ])
          | inr (tie, fewer) ↦ elim later [
            | inl cheap ↦ inl (omega (arith, this.costs))
            | inr (equal, no-later) ↦
                inr (
                  omega (arith, this.costs),
                  elim (cases_lt is.place (length (l ∷ ls))) [
                    | inl before ↦ inl (omega (arith, this.count))
                    | inr at ↦
                        let place : is.place ≡ length (l ∷ ls) = omega arith in
                        let moved : into is.place ≡ into (length (l ∷ ls)) = ap into place in
                        let same = is.is in
                        let equals : e ≡ d = cc in
                        inr (this.count ∙ place, subst (λ (x : Costed). IsNoLater x.lengths (l ∷ ls)) equals no-later)
                  ],
                )
          ]
        ]

pub chooses : (p : PointsValue) (into : ℕ → Option Costed) (groups : ℕ) → 0 < length p.values → 0 < groups → AreBest p into → (d : Costed) × (cheapest into groups ≡ Some d) × IsChosen p groups d.lengths × (d.cost ≡ division_cost p 0 d.lengths)
chooses p into groups some any are = go (cheapest into groups) refl
  where
    one-piece : IsDivision (length p.values) (length p.values ∷ [])
    one-piece = record { some = All-cons (λ l. 0 < l) (length p.values) [] some (All-nil (λ l. 0 < l)); whole = omega (arith, sum_by-cons (λ x. x) (length p.values) []) }

    go : (o : Option Costed) → cheapest into groups ≡ o → (d : Costed) × (cheapest into groups ≡ Some d) × IsChosen p groups d.lengths × (d.cost ≡ division_cost p 0 d.lengths)
    go None g = absurd (are.nones 1 (cheapest-none into groups g 1 (omega arith) any) (length p.values ∷ []) one-piece refl)
    go (Some d) g =
        let is = cheapest-some into groups d g in
        let this = are.somes is.place d is.is in (
          d,
          g,
          record { division = this.division; few = omega (arith, this.count, is.within); best = chosen-best p into groups d some are is this },
          this.costs,
        )

pub table-chooses : (p : PointsValue) (groups : ℕ) → 0 < length p.values → 0 < groups → (d : Costed) × (best_division p groups ≡ Some d) × IsChosen p groups d.lengths × (d.cost ≡ division_cost p 0 d.lengths)
table-chooses p groups some any =
    chooses p (into_pieces p) groups some any (record {
      somes = λ pieces d h. into-some p pieces 0 (length p.values) d h;
      nones = λ pieces h. into-none p pieces 0 (length p.values) h;
    })

-- ---- there is one
no-later-both : (xs ys : List ℕ) → IsNoLater xs ys → IsNoLater ys xs → xs ≡ ys
no-later-both [] [] h g = refl
no-later-both [] (y ∷ ys) h g = absurd g
no-later-both (x ∷ xs) [] h g = absurd h
no-later-both (x ∷ xs) (y ∷ ys) h g = elim h [
  | inl less ↦ elim g [ inl more ↦ absurd (omega arith) | inr (same, _) ↦ absurd (omega arith) ]
  | inr (same, rest) ↦ elim g [ inl more ↦ absurd (omega arith) | inr (_, back) ↦ ap₂ (λ z zs. z ∷ zs) same (no-later-both xs ys rest back) ]
]

pub one-is-chosen : (p : PointsValue) (groups : ℕ) (one other : List ℕ) → IsChosen p groups one → IsChosen p groups other → one ≡ other
one-is-chosen p groups one other h g = elim (h.best other g.division g.few) [
  | inl less ↦ elim (g.best one h.division h.few) [ inl more ↦ absurd (omega arith) | inr (same, _) ↦ absurd (omega arith) ]
  | inr (same, rest) ↦ elim (g.best one h.division h.few) [
    | inl more ↦ absurd (omega arith)
    | inr (_, back) ↦ elim rest [
      | inl fewer ↦ elim back [ inl more ↦ absurd (omega arith) | inr (equal, _) ↦ absurd (omega arith) ]
      | inr (equal, early) ↦ elim back [ inl more ↦ absurd (omega arith) | inr (_, late) ↦ no-later-both one other early late ]
    ]
  ]
]
