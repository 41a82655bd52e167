-- The steps of the loops that add up loads and costs, and the sizes of what they add.
use Rattle.std.proofs.Common.{◌≡◌, ℕ, zero, suc, ◌+◌, ◌*◌, ◌^◌, ◌<◌, ◌≤◌, arith, ap, ◌∙◌, subst, List, [], ◌∷◌, drop, length, get_or}
use Rattle.std.proofs.Common.{true, false, cond, All}
use Rattle.std.proofs.lemmas.List.{at_drop_more, at_drop_all}
use Rattle.std.proofs.Math.Nat.{mul-le-mul}
use Rattle.nrm_lp.specs.declared.limits.TheConstants.{MOST_SEATS_IN_ALL}
use Rattle.nrm_lp.specs.Program.{AreLegs, AreProducts, IsProgram, ProgramValue, load, names}

-- ---- one more product or leg
pub load_more : (i : ℕ) (legs : List (List ℕ)) (xs : List ℕ) (j : ℕ) → j < length legs → j < length xs
    → load i (drop j legs) (drop j xs) ≡ cond (names i (get_or legs j [])) (get_or xs j 0) 0 + load i (drop (j + 1) legs) (drop (j + 1) xs)
load_more i legs xs j l m = at_drop_more (λ (ls : List (List ℕ)). load i ls (drop j xs)) legs j [] l ∙ at_drop_more (load i (get_or legs j [] ∷ drop (j + 1) legs)) xs j 0 m

pub load_named : (i : ℕ) (legs : List (List ℕ)) (xs : List ℕ) (j sum total : ℕ) → j < length legs → j < length xs
    → names i (get_or legs j []) ≡ true → sum + load i (drop j legs) (drop j xs) ≡ total
    → sum + get_or xs j 0 + load i (drop (j + 1) legs) (drop (j + 1) xs) ≡ total
load_named i legs xs j sum total l m e h = omega (arith, h, load_more i legs xs j l m, ap (λ b. cond b (get_or xs j 0) 0) e)

pub load_unnamed : (i : ℕ) (legs : List (List ℕ)) (xs : List ℕ) (j sum total : ℕ) → j < length legs → j < length xs
    → names i (get_or legs j []) ≡ false → sum + load i (drop j legs) (drop j xs) ≡ total
    → sum + load i (drop (j + 1) legs) (drop (j + 1) xs) ≡ total
load_unnamed i legs xs j sum total l m e h = omega (arith, h, load_more i legs xs j l m, ap (λ b. cond b (get_or xs j 0) 0) e)

pub load_done : (i : ℕ) (legs : List (List ℕ)) (xs : List ℕ) (j sum total : ℕ) → length legs ≤ j
    → sum + load i (drop j legs) (drop j xs) ≡ total → sum ≡ total
load_done i legs xs j sum total l h = omega (arith, h, at_drop_all (λ (ls : List (List ℕ)). load i ls (drop j xs)) legs j l)

-- ---- a product's legs are legs of the program
legs_below : (n : ℕ) (ls : List ℕ) → AreLegs n ls → All (λ leg. leg < n) ls
legs_below n [] h k d l = absurd (omega arith)
legs_below n (i ∷ ls) h zero d l = h.0
legs_below n (i ∷ ls) h (suc k) d l = legs_below n ls h.2 k d (omega arith)

legs_at : (n : ℕ) (us rs : List ℕ) (legs : List (List ℕ)) → AreProducts n us rs legs → (j : ℕ) → j < length us
    → AreLegs n (get_or legs j [])
legs_at n [] rs legs h j l = absurd (omega arith)
legs_at n (u ∷ us) [] [] h j l = absurd h
legs_at n (u ∷ us) [] (ls ∷ legs) h j l = absurd h
legs_at n (u ∷ us) (r ∷ rs) [] h j l = absurd h
legs_at n (u ∷ us) (r ∷ rs) (ls ∷ legs) h zero l = h.0
legs_at n (u ∷ us) (r ∷ rs) (ls ∷ legs) h (suc j) l = legs_at n us rs legs h.1 j (omega arith)

pub product_legs : (a : ProgramValue) → IsProgram a → (j : ℕ) (ls : List ℕ) → j < length a.bounds → get_or a.legs j [] ≡ ls
    → All (λ leg. leg < length a.caps) ls
product_legs a ok j ls l e = legs_below (length a.caps) ls (subst (AreLegs (length a.caps)) e (legs_at (length a.caps) a.bounds a.fares a.legs ok j l))

-- ---- sizes
pub bound_excess : (bound excess : ℕ) → bound ≤ MOST_SEATS_IN_ALL → excess < 2 ^ 75 → bound * excess ≤ 2 ^ 90
bound_excess bound excess h l = omega (arith, mul-le-mul h (le_of_lt l))
  where
    le_of_lt : excess < 2 ^ 75 → excess ≤ 2 ^ 75
    le_of_lt l = omega arith
