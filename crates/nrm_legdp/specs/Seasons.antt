-- The seasons that may come in the static model of one leg (chapter 2 of Talluri and van Ryzin): what a policy earns in each, so that its
-- mean is one over all of them; and policies that remember what was asked for before.
use Rattle.std.specs.Prelude.{ℕ, zero, suc, ◌≡◌, ◌+◌, ◌-◌, ◌*◌, ◌^◌, ◌≤◌, List, [], ◌∷◌, length, map, flat_map, sum_by, slice_index, min}
use Rattle.nrm_legdp.specs.Policies.{DemandValue, Policy, demands_after, earned, pay_after, value}
use Rattle.nrm_legdp.specs.Table.{AreClasses}

-- all seasons of the first j classes: in each a demand of class j, which asks first, and then one of each class above it. A class that asked
-- for as much in two histories has two seasons of it, so that each season is as likely
abbrev pub seasons : DemandValue → ℕ → List (List ℕ)
seasons c zero = [] ∷ []
seasons c (suc j) = flat_map (λ d. map (λ season. d ∷ season) (seasons c j)) (demands_after c j)

-- what a policy earns of the first j classes in one season, with x seats left for them: of each seat that it sells the fare
abbrev pub earned_in : DemandValue → Policy → ℕ → ℕ → List ℕ → ℕ
earned_in c sells zero x season = 0
earned_in c sells (suc j) x [] = 0
earned_in c sells (suc j) x (d ∷ season) =
    slice_index c.fares j * sells (suc j) x d + earned_in c sells j (x - sells (suc j) x d) season

-- there are as many seasons as histories to the power of the classes, and what a policy earns is what it earns in all of them together:
-- over their number it is the expected revenue of the policy
abbrev pub EarnedOverSeasons : Type 0
EarnedOverSeasons = (c : DemandValue) (sells : Policy) (j x : ℕ) → AreClasses c → j ≤ length c.fares
    → (length (seasons c j) ≡ c.histories ^ j) × (earned c sells j x ≡ sum_by (earned_in c sells j x) (seasons c j))

-- ---- policies that remember
-- how many seats are sold by the demands of the classes that asked before, the last of them first, which also tell how many these were; by
-- the seats left, and by what is asked for
abbrev pub Remembering : Type 0
Remembering = List ℕ → ℕ → ℕ → ℕ

abbrev pub IsRemembering : Remembering → Type 0
IsRemembering sells = (past : List ℕ) (x d : ℕ) → sells past x d ≤ min d x

-- what it earns of the first j classes with x seats left for them, if the classes before asked for this
abbrev pub earned_after : DemandValue → Remembering → ℕ → ℕ → List ℕ → ℕ
earned_after c sells zero x past = 0
earned_after c sells (suc j) x past =
    sum_by (λ d. pay_after c j * sells past x d + earned_after c sells j (x - sells past x d) (d ∷ past)) (demands_after c j)

-- to remember gains nothing: the value is the most that any policy earns which doesn't know the demands to come
abbrev pub RememberingEarnsNoMore : Type 0
RememberingEarnsNoMore = (c : DemandValue) (sells : Remembering) → IsRemembering sells → (j x : ℕ) (past : List ℕ)
    → earned_after c sells j x past ≤ value c j x
