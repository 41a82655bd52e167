-- Plans by hand, on two legs with ten seats each and five products: at bid prices of 150 and 80 a fare is compared with the sum on the
-- product's legs.
use Rattle.std.specs.Prelude.{◌≡◌, ◌∷◌, [], map, pos, Some, None, true, false, refl, ℕ, ℤ}
use Rattle.nrm_model.specs.declared.mode.Mode.{Mode}
use Rattle.nrm_model.specs.declared.mode.Mode.TheVariants as mode
use Rattle.nrm_lp.specs.declared.certificate.Certificate.{Certificate}
use Rattle.nrm_samples.specs.Networks.{two_legs_five_products, two_legs_last_first}
use Rattle.nrm_fraction.specs.Fraction.{◌over◌}
use Rattle.nrm_fraction.specs.Large.{size_limit}
use Rattle.nrm_number.specs.Gcd.{gcd, in_lowest_terms}
use Rattle.nrm_lp.specs.Certified.{Certifies}
use Rattle.nrm_lp.specs.Overflow.{Overflows}
use Rattle.nrm_lp.specs.Program.{ProgramValue}
use Rattle.nrm_simplex.specs.Solving.{IsClosing}
use Rattle.nrm_simplex.specs.declared.fault.SolveFault.TheVariants as fault
use Rattle.nrm_plan.specs.Plans.{IsOpeningPlan, IsPlanFault, HasCertificate, HasOptimalPrices, IsPlanOf, PlanOverflows, PlanValue, fare_refuses, value_of}

abbrev at_150_and_80 : Certificate
at_150_and_80 = record { q = pos 1; x = pos 12 ∷ pos 12 ∷ pos 16 ∷ pos 24 ∷ pos 0 ∷ []; den = pos 1; p = pos 150 ∷ pos 80 ∷ []; value = pos 16520 }

-- the same prices in half units
abbrev in_halves : Certificate
in_halves = record { q = pos 1; x = []; den = pos 2; p = pos 300 ∷ pos 160 ∷ []; value = pos 33040 }

abbrev planned : Mode → Certificate → PlanValue
planned m cert = record { mode = m; period = 1; left = 10 ∷ 10 ∷ []; certificate = Some cert; nests = None }

-- 400 against 150, 150 against 150, 500 against 230, 80 against 80, 229 against 230
fares : map (fare_refuses two_legs_five_products (planned mode.Bid at_150_and_80)) (0 ∷ 1 ∷ 2 ∷ 3 ∷ 4 ∷ []) ≡ false ∷ false ∷ false ∷ false ∷ true ∷ []
fares = refl

fares_in_halves : map (fare_refuses two_legs_five_products (planned mode.Bid in_halves)) (0 ∷ 1 ∷ 2 ∷ 3 ∷ 4 ∷ []) ≡ false ∷ false ∷ false ∷ false ∷ true ∷ []
fares_in_halves = refl

-- no other mode compares them
only_under_bid_prices : map (λ m. fare_refuses two_legs_five_products (planned m at_150_and_80) 4) (mode.FirstCome ∷ mode.Davn ∷ []) ≡ false ∷ false ∷ []
only_under_bid_prices = refl

-- first come, first served has no certificate, and never runs out of memory
no_certificate : IsPlanOf two_legs_five_products (planned mode.FirstCome at_150_and_80) → ⊥
no_certificate of = let none : Some at_150_and_80 ≡ None = of.certificate in cc

no_memory_needed : IsPlanFault two_legs_five_products mode.FirstCome (10 ∷ 10 ∷ []) 1 fault.NoMemory → ⊥
no_memory_needed other = other refl

never_large : IsPlanFault two_legs_five_products mode.FirstCome (10 ∷ 10 ∷ []) 1 (fault.Overflow 0 (pos 0)) → ⊥
never_large (n, large, counted) = large

-- what a plan at 2 and 0 seats left and from the second period on solves: 5 and 1 seats of demand to come in two histories
abbrev later : ProgramValue
later = record { caps = 4 ∷ 0 ∷ []; bounds = 5 ∷ 1 ∷ []; fares = 500 ∷ 200 ∷ []; legs = (1 ∷ 0 ∷ []) ∷ (0 ∷ []) ∷ [] }

solves_later : (cert : Certificate) → HasCertificate two_legs_last_first (2 ∷ 0 ∷ []) 2 mode.Davn (Some cert) → IsClosing later cert
solves_later cert has = has

large_later : (n : ℕ) (number : ℤ) → PlanOverflows two_legs_last_first mode.Bid (2 ∷ 0 ∷ []) 2 n number → Overflows size_limit later n number
large_later n number large = large

optimal_later : HasOptimalPrices two_legs_last_first (record (planned mode.Bid at_150_and_80) { period = 2; left = 2 ∷ 0 ∷ [] }) → (cert : Certificate) × (Some at_150_and_80 ≡ Some cert) × Certifies size_limit later cert
optimal_later has = has

mean : value_of two_legs_five_products (planned mode.Bid at_150_and_80) ≡ Some (pos 4130 over 1)
unfolding ◌over◌ gcd in_lowest_terms
mean = refl

-- an opening plan is that of period 1 with every authorised seat left
not_later : IsOpeningPlan two_legs_five_products mode.Bid (record (planned mode.Bid at_150_and_80) { period = 2 }) → ⊥
not_later is = cc is.period_is

not_sold : IsOpeningPlan two_legs_five_products mode.Bid (record (planned mode.Bid at_150_and_80) { left = 10 ∷ 9 ∷ [] }) → ⊥
not_sold is = cc is.left_is
