-- The sizes of numbers below a limit.
use Rattle.std.proofs.Common.{ℕ, zero, suc, ◌<◌, ◌^◌, ℤ, nat_abs, lit<, sym, subst, List, [], ◌∷◌, get_or, All}
use Rattle.std.proofs.lemmas.List.Elements.{All-head, All-tail}
use Rattle.nrm_fraction.specs.Large.{size_limit}
use Rattle.nrm_lp.specs.Shape.{IsNumber}
use Rattle.nrm_lp.specs.Certified.{sizes}

number_below : (limit : ℕ) (n : ℤ) → IsNumber limit n → nat_abs n < limit
number_below limit n h = subst (λ z. nat_abs z < limit) (sym h.1) h.2

sizes_below : (limit : ℕ) → 0 < limit → (ns : List ℤ) → All (IsNumber limit) ns → (k : ℕ) → get_or (sizes ns) k 0 < limit
sizes_below limit room [] h k = room
sizes_below limit room (n ∷ ns) h zero = number_below limit n (All-head (IsNumber limit) n ns h)
sizes_below limit room (n ∷ ns) h (suc k) = sizes_below limit room ns (All-tail (IsNumber limit) n ns h) k

-- below the limit of a certificate's numbers
pub below_limit : (n : ℤ) → IsNumber size_limit n → nat_abs n < 2 ^ 48
below_limit n h = number_below size_limit n h

pub small_size : (ns : List ℤ) → All (IsNumber size_limit) ns → (k : ℕ) → get_or (sizes ns) k 0 < 2 ^ 48
small_size ns h k = sizes_below size_limit (lit< tt) ns h k
