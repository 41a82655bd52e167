use Rattle.std.proofs.Common.{ℕ, ◌≡◌, ◌∙◌, ◌∷◌, [], ◌<◌, List, arith, refl, lit<}
use Rattle.std.specs.Prelude.{ℤ, pos}
use Rattle.std.proofs.lemmas.List.Elements.{All-cons, All-nil}
use Rattle.nrm_fraction.specs.Large.{size_limit}
use Rattle.nrm_lp.specs.Shape.{HasShape, IsNumber}
use Rattle.nrm_solver_tests.proofs.dlp.in_quarters.Goals as goal

small : (k : ℕ) → k < 10000 → IsNumber size_limit (pos k)
small k below = (k, refl, omega (arith, below))

shaped : (x p : List ℤ) → x ≡ pos 4 ∷ pos 2 ∷ [] → p ≡ pos 800 ∷ pos 1200 ∷ [] → HasShape size_limit 2 2 (record { q = pos 1; x = x; den = pos 4; p = p; value = pos 9604 })
shaped x p x_is p_is =
    rw (x_is, p_is) (record {
      allocation = refl;
      prices = refl;
      q_size = small 1 (lit< tt);
      x_sizes = All-cons (IsNumber size_limit) (pos 4) (pos 2 ∷ []) (small 4 (lit< tt)) (All-cons (IsNumber size_limit) (pos 2) [] (small 2 (lit< tt)) (All-nil (IsNumber size_limit)));
      den_size = small 4 (lit< tt);
      p_sizes = All-cons (IsNumber size_limit) (pos 800) (pos 1200 ∷ []) (small 800 (lit< tt)) (All-cons (IsNumber size_limit) (pos 1200) [] (small 1200 (lit< tt)) (All-nil (IsNumber size_limit)));
      value_size = small 9604 (lit< tt);
      some_q = lit< tt;
      some_den = lit< tt;
    })

pub returns : goal.returns
returns c = shaped c.new.result c.new-2.result (c.new.ensures ∙ c.in_ok-from_array.ensures.items) (c.new-2.ensures ∙ c.in_ok-from_array-2.ensures.items)
