-- The seats that are protected from each product on each leg: what stands in the list at the place of a pair.
use Rattle.std.proofs.Common.{ℕ, suc, ◌≡◌, ◌∙◌, ◌+◌, ◌-◌, ◌*◌, ◌<◌, ◌≤◌, Bool, List, [], Option, Some, None, IsSome, length, get_or, refl, ap, arith}
use Rattle.std.specs.Prelude.{if◌then◌else◌, unwrap_or}
use native.Mathlib.Nat.{mul-le-mul_right}
use Rattle.nrm_model.specs.Network.{NetworkValue}
use Rattle.nrm_lp.specs.declared.certificate.Certificate.{Certificate}
use Rattle.nrm_virtual.specs.Table.{HasPair, bucket_in}
use Rattle.nrm_virtual.proofs.Tables.{pair-within}
use Rattle.nrm_plan.specs.Nesting.{AreNestsOf, NestsValue, level_at}
use Rattle.nrm_plan.specs.Inner.Protected.{AreProtected, AreProtectedInAll, IsProtectedAt, protected_at}

-- the place of a pair is one of the places of all legs
pub place-within : (legs products i j : ℕ) → i < legs → j < products → i * products + j < legs * products
place-within legs products i j leg product =
    let low : suc i * products ≤ legs * products = mul-le-mul_right products leg in
    omega (arith, low)

-- each pair of the table has its seats in the list
pub are-protected : (net : NetworkValue) (k : ℕ) (cert : Certificate) (nests : NestsValue) (protected : List ℕ) → AreNestsOf net k cert nests → AreProtectedInAll net nests protected → AreProtected nests (length net.products) protected
are-protected net k cert nests protected are in-all = λ i j b found.
    let (leg, product, used) = pair-within net cert nests.buckets i j b are.buckets found in
    record {
      within = omega (arith, in-all.long, place-within (length net.legs) (length net.products) i j leg product);
      seats_are = in-all.done i j leg product ∙ ap (λ (t : Bool). if t then protected_at nests i j else 0) used
          ∙ ap (λ (o : Option ℕ). level_at (get_or nests.protections i []) (unwrap_or o 1 - 1)) found;
    }

-- and a pair of the table is one that has them
pub pair-protected : (nests : NestsValue) (products : ℕ) (protected : List ℕ) → AreProtected nests products protected → (i j : ℕ) → HasPair nests.buckets i j
    → (b : ℕ) × (bucket_in nests.buckets i j ≡ Some b) × IsProtectedAt protected products i j (level_at (get_or nests.protections i []) (b - 1))
pair-protected nests products protected are i j pair = by (bucket_in nests.buckets i j) refl pair
  where
    by : (o : Option ℕ) → bucket_in nests.buckets i j ≡ o → IsSome o → (b : ℕ) × (bucket_in nests.buckets i j ≡ Some b) × IsProtectedAt protected products i j (level_at (get_or nests.protections i []) (b - 1))
    by None is some = absurd (cc some)
    by (Some b) is some = (b, is, are i j b is)
