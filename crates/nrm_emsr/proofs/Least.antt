-- The first number that passes a test.
use Rattle.std.proofs.Common.{ℕ, zero, suc, ◌≡◌, ◌∙◌, ◌+◌, ◌<◌, ◌≤◌, Bool, true, false, cond, min, max, inl, inr, ne_eqb, zero-add, sym, ap, arith}
use Rattle.nrm_model.specs.Network.{NetworkValue, leg_of}
use Rattle.nrm_lp.specs.declared.certificate.Certificate.{Certificate}
use Rattle.nrm_emsr.specs.Protections.{least_from, protection_of, seats_enough, suffices}
use Rattle.nrm_emsr.specs.Fares.{weight_of}
use Rattle.std.proofs.lemmas.Bool.{cases_lt}

-- the protections of one bucket more
pub protection-more : (net : NetworkValue) (cert : Certificate) (i k b : ℕ) → protection_of net cert i k (b + 1) ≡ max (protection_of net cert i k b) (seats_enough net cert i k (b + 1))
protection-more net cert i k b =
    let one : b + 1 ≡ suc b = omega arith in
    ap (protection_of net cert i k) one ∙ ap (λ (a : ℕ). max (protection_of net cert i k b) (seats_enough net cert i k a)) (sym one)

-- where a number passes and no lower one does, the first of n that passes is that one, or the number after them
least-min : (p : ℕ → Bool) (c : ℕ) → p c ≡ true → ((w : ℕ) → w < c → p w ≡ false) → (n y : ℕ) → y ≤ c → least_from p n y ≡ min (y + n) c
least-min p c passes fails zero y low = omega arith
least-min p c passes fails (suc n) y low = elim (cases_lt y c) [
  | inl under ↦
      let rest = least-min p c passes fails n (y + 1) (omega arith) in
      let same : min (y + 1 + n) c ≡ min (y + suc n) c = omega arith in
      ap (λ (b : Bool). cond b y (least_from p n (y + 1))) (fails y under) ∙ rest ∙ same
  | inr over ↦
      let same : y ≡ c = omega arith in
      let end : y ≡ min (y + suc n) c = omega arith in
      ap (λ (b : Bool). cond b y (least_from p n (y + 1))) (ap p same ∙ passes) ∙ end
]

pub enough-least : (net : NetworkValue) (cert : Certificate) (i k b c : ℕ) → 0 < weight_of net cert i k 1 b
    → suffices net cert i k b c ≡ true → ((y : ℕ) → y < c → suffices net cert i k b y ≡ false)
    → seats_enough net cert i k b ≡ min (leg_of net i).authorised c
enough-least net cert i k b c some passes fails =
    ap (λ (t : Bool). cond t 0 (least_from (suffices net cert i k b) (leg_of net i).authorised 0)) (ne_eqb (weight_of net cert i k 1 b) 0 (λ none. omega (arith, none, some)))
    ∙ least-min (suffices net cert i k b) c passes fails (leg_of net i).authorised 0 (omega arith)
    ∙ ap (λ (n : ℕ). min n c) (zero-add (leg_of net i).authorised)
