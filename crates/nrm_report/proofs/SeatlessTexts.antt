-- What the plans of two networks that differ in their physical seats alone are told as.
use Rattle.std.proofs.Common.{ℕ, ◌≡◌, ◌++◌, ◌∷◌, [], List, length, map, Option, Some, None, refl}
use Rattle.std.specs.Prelude.{nat_abs, flat_map, decimal, codes}
use Rattle.std.specs.List.{range_with_len}
use Rattle.nrm_fraction.specs.Fraction.{◌over◌}
use Rattle.nrm_text.specs.Fractions.{fraction_text}
use Rattle.nrm_text.specs.Words.{text_line}
use Rattle.nrm_model.specs.declared.leg.Leg.{Leg}
use Rattle.nrm_model.specs.declared.mode.Mode.{Mode}
use Rattle.nrm_model.specs.declared.mode.Mode.TheVariants as mode
use Rattle.nrm_model.specs.Inventory.{inventory_of, products_on}
use Rattle.nrm_model.specs.Network.{NetworkValue, product_of}
use Rattle.nrm_lp.specs.declared.certificate.Certificate.{Certificate}
use Rattle.nrm_lp.specs.Means.{bid_price}
use Rattle.nrm_virtual.specs.Adjusted.{adjusted_fare}
use Rattle.nrm_plan.specs.Plans.{PlanValue}
use Rattle.nrm_dual.specs.Texts.{certificate_text, product_line, value_line}
use Rattle.nrm_report.specs.Texts.{nest_line, nests_text, plan_text, protect_line, text_of_plan}
use Rattle.nrm_model.proofs.SeatlessLegs.{AreSameLegs, with_legs, count-same, name-same}
use Rattle.nrm_emsr.proofs.SeatlessNests.{bucket-same, protections-same}

module _ (net : NetworkValue) (legs : List Leg) (same : AreSameLegs net.legs legs) where
  abbrev other : NetworkValue
  other = with_legs net legs

  certificate_text-same : (cert : Certificate) → certificate_text net cert ≡ certificate_text other cert
  certificate_text-same cert =
      λ m. value_line net cert
      ++ flat_map (product_line net cert) (range_with_len 0 (length net.products))
      ++ flat_map (λ i. text_line (codes "leg" ∷ name-same net legs same i m ∷ fraction_text (bid_price cert i) ∷ []))
      (range_with_len 0 (count-same net legs same m))

  nest_line-same : (cert : Certificate) (i j : ℕ) → nest_line net cert i j ≡ nest_line other cert i j
  nest_line-same cert i j =
      λ m. text_line (codes "nest" ∷ name-same net legs same i m ∷ (product_of net j).name
      ∷ fraction_text (adjusted_fare net cert i j over nat_abs cert.den) ∷ decimal (bucket-same net legs same cert i j m) ∷ [])

  protect_line-same : (cert : Certificate) (k i : ℕ) → protect_line net cert k i ≡ protect_line other cert k i
  protect_line-same cert k i =
      λ m. text_line (codes "protect" ∷ name-same net legs same i m
      ∷ map (λ seats. decimal seats) (protections-same net legs same cert i k m))

  nests_text-same : (k : ℕ) (cert : Certificate) → nests_text net k cert ≡ nests_text other k cert
  nests_text-same k cert =
      λ m. flat_map (λ i. flat_map (λ j. nest_line-same cert i j m) (products_on (inventory_of net) i))
      (range_with_len 0 (count-same net legs same m))
      ++ flat_map (λ i. protect_line-same cert k i m) (range_with_len 0 (count-same net legs same m))

  text_of_plan-same : (m : Mode) (k : ℕ) (cert : Option Certificate) → text_of_plan net m k cert ≡ text_of_plan other m k cert
  text_of_plan-same m k None = refl
  text_of_plan-same mode.FirstCome k (Some cert) = certificate_text-same cert
  text_of_plan-same mode.Bid k (Some cert) = certificate_text-same cert
  text_of_plan-same mode.Davn k (Some cert) = λ m. certificate_text-same cert m ++ nests_text-same k cert m

  pub text-same : (plan : PlanValue) → plan_text net plan ≡ plan_text other plan
  text-same plan = text_of_plan-same plan.mode plan.period plan.certificate
