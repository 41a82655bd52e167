-- The whole numbers of two rows that are combined or compared.
use Rattle.std.specs.Prelude.{ℕ, ℤ, pos, ◌-ℤ◌, ◌*ℤ◌, int_lt, Bool, true, false, if◌then◌else◌, get_or, List, [], ◌∷◌, map}
use Rattle.nrm_number.specs.Gcd.{shrink}

-- the numbers x e - a u, of a row's numbers x and another's numbers u
abbrev pub crossed : ℤ → ℤ → List ℤ → List ℤ → List ℤ
crossed a e [] xs = []
crossed a e (u ∷ us) [] = []
crossed a e (u ∷ us) (x ∷ xs) = (x *ℤ e -ℤ a *ℤ u) ∷ crossed a e us xs

-- each number divided by g
abbrev pub shrunk : ℕ → List ℤ → List ℤ
shrunk g ns = map (λ n. shrink n g) ns

-- whether the numbers x q at these columns come before the numbers y p in the order of a dictionary
abbrev pub crossed_below : ℤ → ℤ → List ℤ → List ℤ → List ℕ → Bool
crossed_below p q xs ys [] = false
crossed_below p q xs ys (c ∷ cs) =
    let x = get_or xs c (pos 0) *ℤ q in
    let y = get_or ys c (pos 0) *ℤ p in
    if int_lt x y then true else if int_lt y x then false else crossed_below p q xs ys cs
