-- The protection above a product's bucket, as it is looked up.
use Rattle.std.proofs.Common.{ℕ, zero, suc, ◌≡◌, ◌∙◌, ◌-◌, ◌*◌, ◌<◌, ◌≤◌, List, [], Option, Some, None, length, get_or, arith, refl, ap, sym, subst}
use Rattle.std.proofs.lemmas.List.FromFn.{get_or-map-range_with_len, length-map-range_with_len}
use Rattle.std.proofs.lemmas.List.Sums.{count_by-le-length}
use Rattle.std.specs.Prelude.{pos, nat_abs, int_lt, IsSome}
use Rattle.std.proofs.lemmas.Option.{none-some}
use Rattle.nrm_model.specs.Network.{NetworkValue, leg_of}
use Rattle.nrm_model.specs.declared.mode.Mode.{Mode}
use Rattle.nrm_model.specs.declared.mode.Mode.TheVariants as mode
use Rattle.nrm_lp.specs.declared.certificate.Certificate.{Certificate}
use Rattle.nrm_virtual.specs.Adjusted.{adjusted_fare}
use Rattle.nrm_virtual.specs.Buckets.{bucket_count, bucket_of}
use Rattle.nrm_emsr.specs.Protections.{protection_of, protections_of}
use Rattle.nrm_virtual.specs.Table.{HasPair, IsTableOf, TableValue, bucket_in}
use Rattle.nrm_virtual.proofs.Tables.{bucket-is}
use Rattle.nrm_plan.specs.Laws.{AreThoseDefined, NestsAreThoseDefined}
use Rattle.nrm_plan.specs.Nesting.{AreNestsOf, NestsValue, level_at}
use Rattle.nrm_plan.specs.Plans.{HasNests, IsPlanOf, PlanValue, protected_from, seats_protected}

-- a bucket is one of the leg's
pub bucket-within : (net : NetworkValue) (cert : Certificate) (i j : ℕ) → (1 ≤ bucket_of net cert i j) × (bucket_of net cert i j ≤ bucket_count net i)
bucket-within net cert i j =
    let few = count_by-le-length (λ cut. int_lt (adjusted_fare net cert i j) (pos (cut * nat_abs cert.den))) (leg_of net i).cuts in
    (omega arith, omega (arith, few))

-- the protections of a leg, one by one
pub level-is : (net : NetworkValue) (cert : Certificate) (i k b : ℕ) → b < bucket_count net i → level_at (protections_of net cert i k) b ≡ protection_of net cert i k b
level-is net cert i k zero below = refl
level-is net cert i k (suc b) below = get_or-map-range_with_len (protection_of net cert i k) 1 (bucket_count net i - 1) b (suc b) 0 (omega (arith, below)) (omega arith)

module _ (net : NetworkValue) (k : ℕ) (cert : Certificate) (nests : NestsValue) (are : AreNestsOf net k cert nests) (i j : ℕ) (leg : i < length net.legs) where
  pub own-levels : get_or nests.protections i [] ≡ protections_of net cert i k
  own-levels = ap (λ (levels : List (List ℕ)). get_or levels i []) are.protections ∙ get_or-map-range_with_len (λ i. protections_of net cert i k) 0 (length net.legs) i i [] leg (omega arith)

  pub legs-held : i < length nests.protections
  legs-held = omega (arith, ap length are.protections ∙ length-map-range_with_len (λ i. protections_of net cert i k) 0 (length net.legs), leg)

  pub levels-held : (bucket : ℕ) → bucket ≡ bucket_of net cert i j → bucket - 1 ≤ length (get_or nests.protections i [])
  levels-held bucket is =
      let (some, within) = bucket-within net cert i j in
      omega (arith, is, within, ap length own-levels ∙ length-map-range_with_len (protection_of net cert i k) 1 (bucket_count net i - 1))

  pub looked-up : (bucket : ℕ) → bucket ≡ bucket_of net cert i j → level_at (get_or nests.protections i []) (bucket - 1) ≡ protection_of net cert i k (bucket_of net cert i j - 1)
  looked-up bucket is =
      let (some, within) = bucket-within net cert i j in
      (λ n. level_at (own-levels n) (is n - 1)) ∙ level-is net cert i k (bucket_of net cert i j - 1) (omega (arith, some, within))

-- a plan that has nests is one for virtual nesting
abbrev pub NestsOf : NetworkValue → PlanValue → NestsValue → Type 0
NestsOf net plan nests = (cert : Certificate) × AreNestsOf net plan.period cert nests × ((i j : ℕ) → protected_from net plan i j ≡ protection_of net cert i plan.period (bucket_of net cert i j - 1))

pub plan-nests : (net : NetworkValue) (plan : PlanValue) (nests : NestsValue) → IsPlanOf net plan → plan.nests ≡ Some nests → NestsOf net plan nests
plan-nests net plan nests of has = by plan.mode plan.certificate refl refl (subst (λ (n : Option NestsValue). HasNests net plan.period plan.mode plan.certificate n) has of.nests)
  where
    by : (m : Mode) (cert : Option Certificate) → plan.mode ≡ m → plan.certificate ≡ cert → HasNests net plan.period m cert (Some nests)
        → (c : Certificate) × AreNestsOf net plan.period c nests × ((i j : ℕ) → seats_protected net plan.mode plan.period plan.certificate i j ≡ protection_of net c i plan.period (bucket_of net c i j - 1))
    by mode.FirstCome cert em ec nested = absurd (none-some nests (sym nested))
    by mode.Bid cert em ec nested = absurd (none-some nests (sym nested))
    by mode.Davn None em ec nested = absurd nested
    by mode.Davn (Some c) em ec nested = (c, nested, λ i j. (λ n. seats_protected net (em n) plan.period (ec n) i j))

-- what a table has for a pair is the product's bucket
bucket-there : (net : NetworkValue) (cert : Certificate) (table : TableValue) (i j : ℕ) → IsTableOf net cert table → HasPair table i j → bucket_in table i j ≡ Some (bucket_of net cert i j)
bucket-there net cert table i j of pair = by (bucket_in table i j) refl pair
  where
    by : (o : Option ℕ) → bucket_in table i j ≡ o → IsSome o → bucket_in table i j ≡ Some (bucket_of net cert i j)
    by None is some = absurd (cc some)
    by (Some b) is some = is ∙ ap Some (bucket-is net cert table i j b of (sym is))

-- the nests of a plan are those that the definitions give
pub nests-defined : NestsAreThoseDefined
nests-defined net plan nests of has = by plan.mode plan.certificate refl (subst (λ (n : Option NestsValue). HasNests net plan.period plan.mode plan.certificate n) has of.nests)
  where
    none-held : Some nests ≡ None → ⊥
    none-held e = cc

    by : (m : Mode) (cert : Option Certificate) → plan.certificate ≡ cert → HasNests net plan.period m cert (Some nests) → AreThoseDefined net plan nests
    by mode.FirstCome cert is nested = absurd (none-held nested)
    by mode.Bid cert is nested = absurd (none-held nested)
    by mode.Davn None is nested = absurd nested
    by mode.Davn (Some prices) is nested = record {
      prices = prices;
      in_force = is;
      buckets = λ i j pair. bucket-there net prices nests.buckets i j nested.buckets pair;
      levels = λ i b leg below. ap (λ (levels : List ℕ). level_at levels b) (own-levels net plan.period prices nests nested i 0 leg) ∙ level-is net prices i plan.period b below;
    }
