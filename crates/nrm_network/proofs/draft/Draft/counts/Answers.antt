-- The counts of a draft are those of the rows that it stands for.
use Rattle.std.proofs.Common.{ℕ, inl, inr, ◌≡◌, ◌∙◌, ◌≤◌, ◌==◌, List, [], ◌∷◌, length, sym, ap, refl, arith, false}
use Rattle.std.proofs.lemmas.List.{length-map}
use Rattle.std.proofs.lemmas.Bool.{cases_Bool, eqb-true}
use Rattle.nrm_network.specs.Rows.{Row, leg_rows, product_rows, refund_rows, version_in, histories_in}
use Rattle.nrm_network.specs.Checks.{why_refused}
use Rattle.nrm_network.specs.File.{leg_in, product_in}
use Rattle.nrm_network.specs.Inner.Draft.{Accepts}
use Rattle.nrm_network.proofs.CheckedRows.{first-checked}
use Rattle.nrm_network.proofs.draft.Draft.counts.Goals as goal

positive : (n : ℕ) → 1 ≤ n → (n == 0) ≡ false
positive n some = elim (cases_Bool (n == 0)) [ inl e ↦ let none = eqb-true n 0 e in absurd (omega arith) | inr e ↦ e ]

-- there are no histories before the first row, and some from then on
first-row : (taken : List Row) → Accepts why_refused [] taken → (histories_in taken == 0) ≡ (length taken == 0)
first-row [] accepted = refl
first-row (first ∷ more) accepted = positive (histories_in (first ∷ more)) (first-checked first accepted.0).histories.0
    ∙ sym (positive (length (first ∷ more)) (omega arith))

pub returns : goal.returns
returns c = λ taken is. record {
  first = ap (λ (n : ℕ). n == 0) is.histories ∙ first-row taken is.accepted;
  version = is.version;
  histories = is.histories;
  periods = is.periods;
  legs = omega (arith, c.len.ensures, ap length is.legs, length-map (leg_rows taken) (leg_in (version_in taken)));
  products = omega (arith, c.len-2.ensures, ap length is.products, length-map (product_rows taken) (product_in (leg_rows taken) (refund_rows taken)));
}
