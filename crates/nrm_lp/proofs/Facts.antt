-- The facts of a path's tableaux, from those that each pivot keeps.
use Rattle.std.proofs.Common.{◌≡◌, ◌≢◌, ℕ, zero, suc, ◌<◌, ◌⊎◌, inl, inr, refl, sym, ap, ◌∙◌, eqb, eq-eqb, ne_eqb}
use Rattle.std.proofs.lemmas.Bool.{cases_eq}
use Rattle.nrm_fraction.specs.Fraction.{Fraction, ◌+ᶠ◌, ◌*ᶠ◌}
use Rattle.nrm_fraction.specs.Rows.{at}
use Rattle.nrm_fraction.proofs.Sums.{sum_to}
use Rattle.nrm_lp.specs.Program.{ProgramValue}
use Rattle.nrm_lp.specs.Tableau.{Tableau, first_tableau, one_if, row_count, slack}
use Rattle.nrm_lp.specs.Facts.{HasPathFacts, Leaves, PathHasFacts, basic, entry, total}
use Rattle.nrm_lp.proofs.Rule.{IsSound, IsLeaving, leaving_exists}
use Rattle.nrm_lp.proofs.Path.{path_kept}

total_is : (n : ℕ) (f : ℕ → Fraction) → sum_to n f ≡ total n f
total_is zero f = refl
total_is (suc n) f = ap (λ s. s +ᶠ f n) (total_is n f)

has_facts : (a : ProgramValue) (t : Tableau) → IsSound a t → HasPathFacts a t
has_facts a t h = record {
  rows = h.shape;
  widths = h.widths;
  value_width = h.value_width;
  basics = h.basis_shape;
  before_end = h.basis_below;
  unit_columns = λ i k li lk. unit_column i k li lk (cases_eq i k);
  value_noughts = h.facts.value_zeros;
  positive = h.positive;
  from_first = λ i c l. h.facts.from_first i c l ∙ total_is (row_count a) (λ k. entry t i (slack a k) *ᶠ entry (first_tableau a) k c);
  value_from_first = λ c. h.facts.value_from_first c ∙ ap (λ s. at (first_tableau a).value c +ᶠ s) (total_is (row_count a) (λ k. at t.value (slack a k) *ᶠ entry (first_tableau a) k c));
  to_first = λ i c l. h.facts.to_first i c l ∙ total_is (row_count a) (λ k. entry (first_tableau a) i (basic t k) *ᶠ entry t k c);
  leaves = λ s l. found s (leaving_exists a t s h l);
}
  where
    unit_column : (i k : ℕ) → i < row_count a → k < row_count a → (i ≡ k) ⊎ (i ≢ k) → entry t i (basic t k) ≡ one_if (eqb i k)
    unit_column i k li lk (inl e) = ap (λ j. entry t j (basic t k)) e ∙ h.facts.ones k lk ∙ ap one_if (sym (eq-eqb i k e))
    unit_column i k li lk (inr d) = h.facts.zeros i k li lk d ∙ ap one_if (sym (ne_eqb i k d))

    found : (s : ℕ) → ((r : ℕ) × IsLeaving a t s r) → (r : ℕ) × Leaves a t s r
    found s w = (w.0, record { within = (w.1).row_below; answer = (w.1).answer; positive = (w.1).entry; least = (w.1).least })

pub path_has_facts : PathHasFacts
path_has_facts a n t e = has_facts a t (path_kept a n t e)
