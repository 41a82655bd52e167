-- Plans: that there is one, and only one, and that its bid prices are optimal.
use Rattle.std.proofs.Common.{map, ◌*◌, length, ℕ, ◌≡◌, ◌≢◌, ◌⊎◌, ◌∙◌, ℤ, List, Option, Some, None, inl, inr, refl, sym, ap, subst}
use Rattle.std.specs.Int.{IsInRange}
use Rattle.std.specs.List.{range_with_len}
use Rattle.std.proofs.lemmas.List.{length-map}
use Rattle.std.proofs.lemmas.List.FromFn.{length-map-range_with_len}
use Rattle.std.proofs.lemmas.Option.{none-some, same_Some}
use Rattle.nrm_fraction.specs.Large.{size_limit}
use Rattle.nrm_model.specs.Demand.{total_to_come}
use Rattle.nrm_model.specs.Limits.{IsNetwork}
use Rattle.nrm_model.specs.Network.{NetworkValue}
use Rattle.nrm_model.specs.declared.mode.Mode.{Mode}
use Rattle.nrm_model.specs.declared.mode.Mode.TheVariants as mode
use Rattle.nrm_lp.specs.declared.certificate.Certificate.{Certificate}
use Rattle.nrm_lp.specs.Certified.{Certifies}
use Rattle.nrm_lp.specs.Overflow.{Overflows}
use Rattle.nrm_lp.specs.Shape.{HasShape}
use Rattle.nrm_simplex.specs.Solving.{IsClosing}
use Rattle.nrm_simplex.proofs.Walk.{closing_certifies}
use Rattle.nrm_dlp.specs.Programs.{program_at}
use Rattle.nrm_simplex.proofs.Closings.{closes-or-not, closing-apart, closing-once, overflow-once}
use Rattle.nrm_dlp.proofs.Limited.{limited}
use Rattle.nrm_virtual.specs.Table.{TableValue, nest_of}
use Rattle.nrm_emsr.specs.Protections.{protections_of}
use Rattle.nrm_plan.specs.Nesting.{AreNestsOf, NestsValue}
use Rattle.nrm_plan.specs.Laws.{EachHasAPlan, PlansAreDetermined, PlansAreOptimal}
use Rattle.nrm_plan.specs.Plans.{AreNests, AreSeatsLeft, HasCertificate, HasNests, IsPlanFor, IsPlanOf, IsSolved, PlanOverflows, PlanValue}

module _ (net : NetworkValue) (left : List ℕ) (k : ℕ) where
  abbrev Shows : Option Certificate → Type 0
  Shows cert = (c : Certificate) × (cert ≡ Some c) × Certifies size_limit (program_at net left k) c

  -- what a mode solves shows an optimum
  solved-optimal : (cert : Option Certificate) → IsNetwork net → AreSeatsLeft net left → IsSolved net left k cert → Shows cert
  solved-optimal None is are none = absurd none
  solved-optimal (Some c) is are closes = (c, refl, closing_certifies (program_at net left k) (limited net left k is are.legs are.seats) c closes)

  certificate-optimal : (m : Mode) (cert : Option Certificate) → IsNetwork net → AreSeatsLeft net left → HasCertificate net left k m cert → m ≢ mode.FirstCome → Shows cert
  certificate-optimal mode.FirstCome cert is are has other = absurd (other refl)
  certificate-optimal mode.Bid cert is are has other = solved-optimal cert is are has
  certificate-optimal mode.Davn cert is are has other = solved-optimal cert is are has

  -- one certificate closes a linear program
  solved-once : (c d : Option Certificate) → IsSolved net left k c → IsSolved net left k d → d ≡ c
  solved-once None d missing solved = absurd missing
  solved-once (Some c) None solved missing = absurd missing
  solved-once (Some c) (Some d) solved solved' = ap Some (closing-once (program_at net left k) c d solved solved')

  certificate-once : (m : Mode) (c d : Option Certificate) → HasCertificate net left k m c → HasCertificate net left k m d → d ≡ c
  certificate-once mode.FirstCome c d has has' = has' ∙ sym has
  certificate-once mode.Bid c d has has' = solved-once c d has has'
  certificate-once mode.Davn c d has has' = solved-once c d has has'

  -- and not one that is Large
  solved-apart : (c : Option Certificate) (n : ℕ) (number : ℤ) → IsSolved net left k c → Overflows size_limit (program_at net left k) n number → ⊥
  solved-apart None n number missing large = absurd missing
  solved-apart (Some c) n number closes large = closing-apart (program_at net left k) c n number closes large

  certificate-apart : (m : Mode) (c : Option Certificate) (n : ℕ) (number : ℤ) → HasCertificate net left k m c → PlanOverflows net m left k n number → ⊥
  certificate-apart mode.FirstCome c n number has large = large
  certificate-apart mode.Bid c n number has large = solved-apart c n number has large
  certificate-apart mode.Davn c n number has large = solved-apart c n number has large

  overflow-of : (m : Mode) (n n' : ℕ) (number number' : ℤ) → PlanOverflows net m left k n number → PlanOverflows net m left k n' number' → (n' ≡ n) × (number' ≡ number)
  overflow-of mode.FirstCome n n' number number' large large' = absurd large
  overflow-of mode.Bid n n' number number' large large' = overflow-once (program_at net left k) n n' number number' large large'
  overflow-of mode.Davn n n' number number' large large' = overflow-once (program_at net left k) n n' number number' large large'

  -- a certificate, or none since its linear program is Large
  abbrev HasOr : Mode → Type 0
  HasOr m = ((c : Option Certificate) × HasCertificate net left k m c) ⊎ ((n : ℕ) × (number : ℤ) × PlanOverflows net m left k n number)

  solved-or : ((c : Option Certificate) × IsSolved net left k c) ⊎ ((n : ℕ) × (number : ℤ) × Overflows size_limit (program_at net left k) n number)
  solved-or = by (closes-or-not (program_at net left k))
    where
      by : ((c : Certificate) × IsClosing (program_at net left k) c) ⊎ ((n : ℕ) × (number : ℤ) × Overflows size_limit (program_at net left k) n number)
          → ((c : Option Certificate) × IsSolved net left k c) ⊎ ((n : ℕ) × (number : ℤ) × Overflows size_limit (program_at net left k) n number)
      by (inl (cert, closes)) = inl (Some cert, closes)
      by (inr large) = inr large

  certificate-or : (m : Mode) → HasOr m
  certificate-or mode.FirstCome = inl (None, refl)
  certificate-or mode.Bid = solved-or
  certificate-or mode.Davn = solved-or

pub optimal : PlansAreOptimal
optimal net plan is of other = certificate-optimal net plan.left plan.period plan.mode plan.certificate is of.left of.certificate other

-- the linear program of a network has a bound for each product and a cap for each leg, so the certificate of a plan has the network's shape
pub shape-of-network : (net : NetworkValue) (left : List ℕ) (k : ℕ) (cert : Certificate) → length left ≡ length net.legs → HasShape size_limit (length (program_at net left k).bounds) (length (program_at net left k).caps) cert
    → HasShape size_limit (length net.products) (length net.legs) cert
shape-of-network net left k cert legs shape =
    let products = length-map-range_with_len (λ j. total_to_come net j k) 0 (length net.products) in
    let caps = length-map left (λ seats. net.histories * seats) ∙ legs in
    subst (λ (n : ℕ). HasShape size_limit (length net.products) n cert) caps (subst (λ (n : ℕ). HasShape size_limit n (length (program_at net left k).caps) cert) products shape)

pub plan-shape : (net : NetworkValue) (plan : PlanValue) (cert : Certificate) → IsNetwork net → IsPlanOf net plan → plan.certificate ≡ Some cert → HasShape size_limit (length net.products) (length net.legs) cert
plan-shape net plan cert is of has = by plan.mode of.certificate
  where
    shown : Shows net plan.left plan.period plan.certificate → HasShape size_limit (length net.products) (length net.legs) cert
    shown (c, same, shows) = shape-of-network net plan.left plan.period cert of.left.legs (subst (λ (d : Certificate). HasShape size_limit (length (program_at net plan.left plan.period).bounds) (length (program_at net plan.left plan.period).caps) d) (same_Some c cert (sym same ∙ has)) shows.shape)

    by : (m : Mode) → HasCertificate net plan.left plan.period m plan.certificate → HasShape size_limit (length net.products) (length net.legs) cert
    by mode.FirstCome none = absurd (none-some cert (sym none ∙ has))
    by mode.Bid solved = shown (solved-optimal net plan.left plan.period plan.certificate is of.left solved)
    by mode.Davn solved = shown (solved-optimal net plan.left plan.period plan.certificate is of.left solved)

-- ---- nests
-- those of a certificate are there
table-of : (net : NetworkValue) (cert : Certificate) → TableValue
table-of net cert = map (λ i. (i, nest_of net cert i)) (range_with_len 0 (length net.legs))

some-nests : (net : NetworkValue) (k : ℕ) (cert : Certificate) → (nests : NestsValue) × AreNestsOf net k cert nests
unfolding table-of
some-nests net k cert = (record { buckets = table-of net cert; protections = map (λ i. protections_of net cert i k) (range_with_len 0 (length net.legs)) }, record { buckets = refl; protections = refl })

nests-of-solved : (net : NetworkValue) (left : List ℕ) (k : ℕ) (cert : Option Certificate) → IsSolved net left k cert → (nests : Option NestsValue) × AreNests net k cert nests
nests-of-solved net left k None missing = absurd missing
nests-of-solved net left k (Some cert) closes = let (nests, are) = some-nests net k cert in (Some nests, are)

has-nests : (net : NetworkValue) (left : List ℕ) (k : ℕ) (m : Mode) (cert : Option Certificate) → HasCertificate net left k m cert → (nests : Option NestsValue) × HasNests net k m cert nests
has-nests net left k mode.FirstCome cert has = (None, refl)
has-nests net left k mode.Bid cert has = (None, refl)
has-nests net left k mode.Davn cert has = nests-of-solved net left k cert has

-- and only those
nests-are : (net : NetworkValue) (k : ℕ) (cert : Certificate) (nests other : NestsValue) → AreNestsOf net k cert nests → AreNestsOf net k cert other → other ≡ nests
nests-are net k cert nests other are are' = λ i. record { buckets = (are'.buckets ∙ sym are.buckets) i; protections = (are'.protections ∙ sym are.protections) i }

solved-nests-once : (net : NetworkValue) (k : ℕ) (cert : Option Certificate) (nests other : Option NestsValue) → AreNests net k cert nests → AreNests net k cert other → other ≡ nests
solved-nests-once net k None nests other missing are = absurd missing
solved-nests-once net k (Some cert) None other missing are = absurd missing
solved-nests-once net k (Some cert) (Some nests) None are missing = absurd missing
solved-nests-once net k (Some cert) (Some nests) (Some other) are are' = ap Some (nests-are net k cert nests other are are')

nests-once : (net : NetworkValue) (k : ℕ) (m : Mode) (cert : Option Certificate) (nests other : Option NestsValue) → HasNests net k m cert nests → HasNests net k m cert other → other ≡ nests
nests-once net k mode.FirstCome cert nests other has has' = has' ∙ sym has
nests-once net k mode.Bid cert nests other has has' = has' ∙ sym has
nests-once net k mode.Davn cert nests other has has' = solved-nests-once net k cert nests other has has'

-- a plan of these parts
pub plan-for : (net : NetworkValue) (m : Mode) (left : List ℕ) (k : ℕ) (cert : Option Certificate) (nests : Option NestsValue) → AreSeatsLeft net left → IsInRange 1 net.periods k
    → HasCertificate net left k m cert → HasNests net k m cert nests → IsPlanFor net m left k (record { mode = m; period = k; left = left; certificate = cert; nests = nests })
plan-for net m left k cert nests are within has nested = record { mode_is = refl; left_is = refl; period_is = refl; planned = record { left = are; period = within; certificate = has; nests = nested } }

pub has-a-plan : EachHasAPlan
has-a-plan net m left k are within = by (certificate-or net left k m)
  where
    by : HasOr net left k m → ((plan : PlanValue) × IsPlanFor net m left k plan) ⊎ ((n : ℕ) × (number : ℤ) × PlanOverflows net m left k n number)
    by (inl (cert, has)) =
        let (nests, nested) = has-nests net left k m cert has in
        inl (record { mode = m; period = k; left = left; certificate = cert; nests = nests }, plan-for net m left k cert nests are within has nested)
    by (inr large) = inr large

-- the certificate of a plan for such seats left and such a period
for-certificate : (net : NetworkValue) (m : Mode) (left : List ℕ) (k : ℕ) (plan : PlanValue) → IsPlanFor net m left k plan → HasCertificate net left k m plan.certificate
for-certificate net m left k plan for = rw (sym for.mode_is, sym for.left_is, sym for.period_is) for.planned.certificate

for-nests : (net : NetworkValue) (m : Mode) (left : List ℕ) (k : ℕ) (plan : PlanValue) → IsPlanFor net m left k plan → HasNests net k m plan.certificate plan.nests
for-nests net m left k plan for = rw (sym for.mode_is, sym for.period_is) for.planned.nests

pub one-plan : PlansAreDetermined
one-plan net m left k = record {
  plan = λ plan other for for'.
      let same = certificate-once net left k m plan.certificate other.certificate (for-certificate net m left k plan for) (for-certificate net m left k other for') in
      let nests = nests-once net k m plan.certificate plan.nests other.nests (for-nests net m left k plan for) (subst (λ (c : Option Certificate). HasNests net k m c other.nests) same (for-nests net m left k other for')) in
      λ i. record {
        mode = (for'.mode_is ∙ sym for.mode_is) i;
        period = (for'.period_is ∙ sym for.period_is) i;
        left = (for'.left_is ∙ sym for.left_is) i;
        certificate = same i;
        nests = nests i;
      };
  overflow = λ n n' number number' large large'. overflow-of net left k m n n' number number' large large';
  apart = λ plan n number for large. certificate-apart net left k m plan.certificate n number (for-certificate net m left k plan for) large;
}
