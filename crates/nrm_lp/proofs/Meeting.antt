-- Where a path ends, its closing is an allocation and prices that meet, with both kinds of slackness.
use Rattle.std.proofs.Common.{◌≡◌, ℕ, ◌*◌, nat_abs, arith, refl, sym, ap, ◌∙◌, subst, List}
use Rattle.nrm_lp.specs.Program.{ProgramValue, IsProgram, IsAllocation, IsPrices, gain, cost}
use Rattle.nrm_fraction.specs.Fraction.{◌*ᶠ◌}
use Rattle.nrm_fraction.specs.Large.{common, over_common}
use Rattle.nrm_fraction.specs.Rows.{at}
use Rattle.nrm_lp.specs.Tableau.{Tableau, right_side}
use Rattle.nrm_lp.specs.Closing.{product_values, leg_prices, value_over}
use Rattle.nrm_lp.specs.Path.{IsLast}
use Rattle.nrm_lp.specs.Certified.{Meet}
use Rattle.nrm_fraction.proofs.Embed.{W, W-num}
use Rattle.nrm_lp.proofs.Rule.{IsSound}
use Rattle.nrm_lp.proofs.Optimal.{is_allocation, are_prices, meets, cost_value}
use Rattle.nrm_lp.proofs.Path.{path_kept, last_signs}
use Rattle.nrm_lp.proofs.Slackness.{priced_legs_full, unmet_not_dear, used_not_cheap}

-- where gain and cost meet, an allocation and prices do
pub meet_of : (a : ProgramValue) → IsProgram a → (q d : ℕ) (x p : List ℕ) → IsAllocation a q x → IsPrices a d p → gain a x * d ≡ cost a d p * q → Meet a q x d p (cost a d p)
meet_of a ok q d x p allocation prices meets = record {
  allocation = allocation;
  prices = prices;
  full = λ i l h. priced_legs_full a q d x p ok allocation prices meets i l h;
  unmet = λ j l h. unmet_not_dear a q d x p ok allocation prices meets j (omega (arith, l, allocation.shape)) h;
  used = λ j l h. used_not_cheap a q d x p ok allocation prices meets j (omega (arith, l, allocation.shape)) h;
  value_is = refl;
  worth = sym meets;
}

module _ (a : ProgramValue) (ok : IsProgram a) (t : Tableau) (last : IsLast a t) where
  kept : IsSound a t
  kept = path_kept a last.0 t last.1

  abbrev q : ℕ
  q = common (product_values a t)

  abbrev d : ℕ
  d = common (leg_prices a t)

  allocation : IsAllocation a (common (product_values a t)) (over_common (product_values a t))
  allocation = is_allocation a ok t kept kept.basis_below (last_signs a t kept last.2)

  prices : IsPrices a (common (leg_prices a t)) (over_common (leg_prices a t))
  prices = are_prices a ok t kept kept.basis_below (last_signs a t kept last.2)

  both : gain a (over_common (product_values a t)) * d ≡ cost a d (over_common (leg_prices a t)) * q
  both = meets a ok t kept kept.basis_below (last_signs a t kept last.2)

  value_cost : value_over a t d ≡ cost a d (over_common (leg_prices a t))
  value_cost = ap (λ x. nat_abs x.num) (sym (cost_value a ok t kept kept.basis_below (last_signs a t kept last.2))) ∙ W-num (cost a d (over_common (leg_prices a t)))

  pub ends_meet : Meet a (common (product_values a t)) (over_common (product_values a t)) (common (leg_prices a t)) (over_common (leg_prices a t)) (value_over a t (common (leg_prices a t)))
  ends_meet = subst (Meet a q (over_common (product_values a t)) d (over_common (leg_prices a t))) (sym value_cost) (meet_of a ok q d (over_common (product_values a t)) (over_common (leg_prices a t)) allocation prices both)

  -- the value row's right side times the denominator of the prices is the cost, which is whole
  pub value_is_whole : at t.value (right_side a) *ᶠ W (common (leg_prices a t)) ≡ W (value_over a t (common (leg_prices a t)))
  value_is_whole = sym (cost_value a ok t kept kept.basis_below (last_signs a t kept last.2)) ∙ ap W (sym value_cost)
