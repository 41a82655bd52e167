-- Whether a list of legs names one.
use Rattle.std.proofs.Common.{◌≡◌, ◌∙◌, ◌||◌, ℕ, List, [], ◌∷◌, eqb, refl, ap, arith}
use Rattle.std.specs.List.{list_any}
use Rattle.nrm_lp.specs.Program.{names}

-- as `contains` finds it
pub names_is : (i : ℕ) (ls : List ℕ) → list_any (λ l. eqb l i) ls ≡ names i ls
names_is i [] = refl
names_is i (l ∷ ls) = let turned : eqb l i ≡ eqb i l = grind arith in ap (λ t. t || list_any (λ l. eqb l i) ls) turned ∙ ap (λ t. eqb i l || t) (names_is i ls)
