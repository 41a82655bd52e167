-- The plans of two networks that differ in their physical seats alone.
use Rattle.std.proofs.Common.{ℕ, ◌≡◌, ◌∙◌, ◌-◌, ◌<◌, List, length, map, Option, Some, None, refl, arith}
use Rattle.std.specs.List.{range_with_len}
use Rattle.nrm_model.specs.declared.leg.Leg.{Leg}
use Rattle.nrm_model.specs.declared.mode.Mode.{Mode}
use Rattle.nrm_model.specs.declared.mode.Mode.TheVariants as mode
use Rattle.nrm_model.specs.Network.{NetworkValue}
use Rattle.nrm_lp.specs.declared.certificate.Certificate.{Certificate}
use Rattle.nrm_virtual.specs.Buckets.{bucket_of}
use Rattle.nrm_emsr.specs.Protections.{protection_of}
use Rattle.nrm_plan.specs.Nesting.{AreNestsOf, NestsValue}
use Rattle.nrm_plan.specs.Plans.{AreSeatsLeft, HasNests, IsPlanFor, IsPlanOf, PlanValue, protected_from, seats_protected}
use Rattle.nrm_model.proofs.SeatlessLegs.{AreSameLegs, with_legs, authorised-same, count-same}
use Rattle.nrm_emsr.proofs.SeatlessNests.{bucket-same, protection-same, protections-same, table-same}

module _ (net : NetworkValue) (legs : List Leg) (same : AreSameLegs net.legs legs) where
  abbrev other : NetworkValue
  other = with_legs net legs

  -- ---- plans
  nests-same : (cert : Certificate) (k : ℕ) (nests : NestsValue) → AreNestsOf net k cert nests → AreNestsOf other k cert nests
  nests-same cert k nests are = record {
    buckets = table-same net legs same cert nests.buckets are.buckets;
    protections = are.protections ∙ (λ m. map (λ i. protections-same net legs same cert i k m) (range_with_len 0 (count-same net legs same m)));
  }

  left-same : (left : List ℕ) → AreSeatsLeft net left → AreSeatsLeft other left
  left-same left are = record {
    legs = are.legs ∙ count-same net legs same;
    seats = λ i below. let count = count-same net legs same in
        let old : i < length net.legs = omega arith in
        let least = are.seats i old in
        let seats = authorised-same net legs same i in omega arith;
  }

  has-same : (k : ℕ) (m : Mode) (cert : Option Certificate) (nests : Option NestsValue) → HasNests net k m cert nests
      → HasNests other k m cert nests
  has-same k mode.FirstCome cert nests has = has
  has-same k mode.Bid cert nests has = has
  has-same k mode.Davn None nests has = absurd has
  has-same k mode.Davn (Some cert) None has = absurd has
  has-same k mode.Davn (Some cert) (Some nests) has = nests-same cert k nests has

  plan-same : (plan : PlanValue) → IsPlanOf net plan → IsPlanOf other plan
  plan-same plan is = record {
    left = left-same plan.left is.left;
    period = is.period;
    certificate = is.certificate;
    nests = has-same plan.period plan.mode plan.certificate plan.nests is.nests;
  }

  pub plan_for-same : (m : Mode) (left : List ℕ) (k : ℕ) (plan : PlanValue) → IsPlanFor net m left k plan → IsPlanFor other m left k plan
  plan_for-same m left k plan for = record {
    mode_is = for.mode_is;
    left_is = for.left_is;
    period_is = for.period_is;
    planned = plan-same plan for.planned;
  }

  -- ---- the seats that a plan protects
  seats_protected-same : (m : Mode) (k : ℕ) (cert : Option Certificate) (i j : ℕ) → seats_protected net m k cert i j ≡ seats_protected other m k cert i j
  seats_protected-same mode.FirstCome k cert i j = refl
  seats_protected-same mode.Bid k cert i j = refl
  seats_protected-same mode.Davn k None i j = refl
  seats_protected-same mode.Davn k (Some cert) i j =
      protection-same net legs same cert i k (bucket_of net cert i j - 1)
      ∙ (λ m. protection_of other cert i k (bucket-same net legs same cert i j m - 1))

  pub protected-same : (plan : PlanValue) (i j : ℕ) → protected_from net plan i j ≡ protected_from other plan i j
  protected-same plan i j = seats_protected-same plan.mode plan.period plan.certificate i j
