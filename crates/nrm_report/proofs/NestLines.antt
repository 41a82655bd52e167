-- What is looked up in the nests of a plan, and the words of a line of protections.
use Rattle.std.proofs.Common.{ℕ, suc, ℤ, to_z, of_z, w64, ◌≡◌, ◌∙◌, ◌+◌, ◌-◌, ◌<◌, true, List, [], ◌∷◌, ◌++◌, Some, Option, None, subst}
use Rattle.std.proofs.Common.{map, flat_map, get_or, take, length, refl, ap, sym, arith, append-nil}
use Rattle.std.specs.Prelude.{codes, decimal}
use Rattle.std.specs.List.{join_with_byte, range_with_len}
use Rattle.std.proofs.lemmas.List.{flat_map_more, take_more}
use Rattle.std.proofs.lemmas.Option.{same_Some}
use Rattle.std.proofs.lemmas.List.Folds.{flat_map-map}
use Rattle.std.proofs.lemmas.List.FromFn.{length-map-range_with_len}
use Rattle.nrm_text.specs.Words.{spaced, text_line}
use Rattle.nrm_model.specs.Inventory.{inventory_of, uses_leg}
use Rattle.nrm_model.specs.Network.{NetworkValue, leg_of}
use Rattle.nrm_model.specs.Limits.{IsNetwork}
use Rattle.nrm_model.specs.declared.mode.Mode.{Mode}
use Rattle.nrm_model.specs.declared.mode.Mode.TheVariants as mode
use Rattle.nrm_lp.specs.declared.certificate.Certificate.{Certificate}
use Rattle.nrm_fraction.specs.Large.{IsSmall, size_limit}
use Rattle.nrm_fraction.proofs.Sizes.{small_same}
use Rattle.nrm_lp.specs.Shape.{IsNumber}
use Rattle.nrm_virtual.specs.Buckets.{bucket_count, bucket_of}
use Rattle.nrm_virtual.specs.Table.{HasPair, bucket_in}
use Rattle.nrm_virtual.proofs.Tables.{bucket-is, pair-in_table}
use Rattle.nrm_emsr.specs.Protections.{protection_of}
use Rattle.nrm_plan.specs.Nesting.{AreNestsOf, NestsValue, level_at}
use Rattle.nrm_plan.specs.Plans.{AreNests, HasNests, IsPlanOf, PlanValue}
use Rattle.nrm_plan.proofs.Plans.{plan-shape}
use Rattle.nrm_plan.proofs.Looked.{legs-held, own-levels}
use Rattle.nrm_report.specs.Inner.Nests.{IsNested, protections_line, protections_line_by}
use Rattle.nrm_report.specs.Texts.{protect_line}

-- a number behind a space
abbrev pub word : ℕ → List ℕ
word seats = spaced (decimal seats)

-- words with a space between each two: the first, and then each of the others behind a space
joined : (first : List ℕ) (more : List (List ℕ)) → join_with_byte 32 (first ∷ more) ≡ first ++ flat_map (λ w. 32 ∷ w) more
joined first [] = sym (append-nil first)
joined first (next ∷ more) = ap (λ (rest : List ℕ). first ++ 32 ∷ rest) (joined next more)

protect-text : (name levels : List ℕ)
    → text_line (codes "protect" ∷ name ∷ map (λ seats. decimal seats) levels) ≡ ((codes "protect " ++ name) ++ flat_map word levels) ++ 10 ∷ []
protect-text name levels =
    ap (λ (rest : List ℕ). (codes "protect " ++ rest) ++ 10 ∷ []) (joined name (map (λ seats. decimal seats) levels) ∙ ap (λ (rest : List ℕ). name ++ rest) (flat_map-map (λ w. 32 ∷ w) (λ seats. decimal seats) levels))

-- a number of a certificate, as it is read from a word
pub number-read : (z : ℤ) → IsNumber size_limit z → to_z w64 (of_z w64 z) ≡ z
number-read z (k, is, low) = let small : IsSmall z = rw is low in small_same z small

-- the protections of a plan are as many, whichever of its equal nests they are read from
pub same-count : (held : Option NestsValue) (i buckets : ℕ)
    → (found : NestsValue) × (held ≡ Some found) × (i < length found.protections) × (length (get_or found.protections i []) ≡ buckets)
    → (nests : NestsValue) → held ≡ Some nests → length (get_or nests.protections i []) ≡ buckets
same-count held i buckets (found, is, leg, count) nests has = ap (λ (n : NestsValue). length (get_or n.protections i [])) (same_Some nests found (sym has ∙ is)) ∙ count

module _ (net : NetworkValue) (cert : Certificate) (plan : PlanValue) (of : IsNested net cert plan) (i : ℕ) (leg : i < length net.legs) where
  -- the bucket of a product on the leg
  pub bucket-held : (j : ℕ) → j < length net.products → uses_leg (inventory_of net) i j ≡ true
      → (nests : NestsValue) × (plan.nests ≡ Some nests) × HasPair nests.buckets i j
  bucket-held j product used = let (nests, has, are) = of.nests in (nests, has, pair-in_table net cert nests.buckets i j are.buckets leg product used)

  pub bucket-shown : (j b : ℕ) → ((nests : NestsValue) → plan.nests ≡ Some nests → Some b ≡ bucket_in nests.buckets i j)
      → b ≡ bucket_of net cert i j
  bucket-shown j b found = let (nests, has, are) = of.nests in bucket-is net cert nests.buckets i j b are.buckets (found nests has)

  -- as many protections as thresholds
  pub protections-held : (buckets : ℕ) → buckets ≡ length (leg_of net i).cuts
      → (nests : NestsValue) × (plan.nests ≡ Some nests) × (i < length nests.protections) × (length (get_or nests.protections i []) ≡ buckets)
  protections-held buckets is =
      let (nests, has, are) = of.nests in
      let count = ap length (own-levels net plan.period cert nests are i 0 leg) ∙ length-map-range_with_len (protection_of net cert i plan.period) 1 (bucket_count net i - 1) in
      (nests, has, legs-held net plan.period cert nests are i 0 leg, omega (arith, count, is))

  -- and their line
  pub protections-shown : (name text line : List ℕ) → name ≡ (leg_of net i).name
      → ((nests : NestsValue) → plan.nests ≡ Some nests → text ≡ (codes "protect " ++ name) ++ flat_map word (get_or nests.protections i []))
      → line ≡ text ++ 10 ∷ [] → line ≡ protections_line net plan i
  protections-shown name text line named shown ends =
      let (nests, has, are) = of.nests in
      ends ∙ ap (λ (front : List ℕ). front ++ 10 ∷ []) (shown nests has) ∙ sym (protect-text name (get_or nests.protections i []))
      ∙ (λ n. text_line (codes "protect" ∷ named n ∷ map (λ seats. decimal seats) (own-levels net plan.period cert nests are i 0 leg n)))
      ∙ sym (ap (λ (o : Option Certificate). protections_line_by net plan.period o i) of.certificate)

-- the protection for one bucket more than so many
pub level-above : (levels : List ℕ) (b : ℕ) → level_at levels (b + 1) ≡ get_or levels b 0
level-above levels b = let one : b + 1 ≡ suc b = omega arith in ap (level_at levels) one

-- one protection more
pub level-more : (levels before line after : List ℕ) (seats b : ℕ) → b < length levels → seats ≡ get_or levels b 0
    → line ≡ before ++ flat_map word (take b levels) → after ≡ line ++ word seats
    → after ≡ before ++ flat_map word (take (b + 1) levels)
level-more levels before line after seats b below is so_far pushed =
    pushed ∙ (λ n. so_far n ++ word (is n)) ∙ flat_map_more word before (take b levels) (get_or levels b 0)
    ∙ ap (λ (xs : List ℕ). before ++ flat_map word xs) (sym (take_more levels b 0 below))

-- the lines of the protections are those at the plan's certificate
pub protections-lines : (net : NetworkValue) (cert : Certificate) (plan : PlanValue) → IsNested net cert plan
    → flat_map (protections_line net plan) (range_with_len 0 (length net.legs)) ≡ flat_map (protect_line net cert plan.period) (range_with_len 0 (length net.legs))
protections-lines net cert plan of = ap (λ (o : Option Certificate). flat_map (protections_line_by net plan.period o) (range_with_len 0 (length net.legs))) of.certificate

-- the nests of a certificate are there
held-nests : (net : NetworkValue) (k : ℕ) (cert : Certificate) (held : Option NestsValue) → AreNests net k (Some cert) held
    → (nests : NestsValue) × (held ≡ Some nests) × AreNestsOf net k cert nests
held-nests net k cert None missing = absurd missing
held-nests net k cert (Some nests) are = (nests, refl, are)

-- a plan for virtual nesting
pub nested-plan : (net : NetworkValue) (plan : PlanValue) (cert : Certificate) → IsNetwork net → IsPlanOf net plan → plan.mode ≡ mode.Davn
    → plan.certificate ≡ Some cert → IsNested net cert plan
nested-plan net plan cert is of davn has =
    let own = subst (λ (m : Mode). HasNests net plan.period m plan.certificate plan.nests) davn of.nests in
    record {
      certificate = has;
      shape = plan-shape net plan cert is of has;
      nests = held-nests net plan.period cert plan.nests (subst (λ (o : Option Certificate). HasNests net plan.period mode.Davn o plan.nests) has own);
    }
