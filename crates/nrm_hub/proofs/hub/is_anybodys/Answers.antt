-- Each client up to this place is another desk, and beyond the last place nobody is.
use Rattle.std.proofs.Common.{ℕ, ◌≡◌, ◌∙◌, ◌≤◌, Some, None, length, inl, inr, sym, subst, arith}
use Rattle.std.proofs.lemmas.Bool.{cases_lt}
use Rattle.std.proofs.lemmas.List.{get_or_past}
use Rattle.nrm_hub.specs.Inner.Seats.{IsDeskOf}
use Rattle.nrm_hub.proofs.hub.is_anybodys.Goals as goal

none-there : {A : Type 0} {x : A} → None ≡ Some x → ⊥
none-there same = absurd (cc)

pub loop-place-preserved : goal.loop-place-preserved
loop-place-preserved c k less is = elim (cases_lt k c.loop-place.place) [
  | inl before ↦ c.loop-place.invariant k before is
  | inr here ↦
      let same : k ≡ c.loop-place.place = omega (arith, less, here) in
      c.if-is_desk_at.ensures (subst (λ (n : ℕ). IsDeskOf c.args.clients.now n c.args.desk) same is)
]

pub returns : goal.returns
returns c (k, is) = elim (cases_lt k c.loop-place.place) [
  | inl before ↦ c.loop-place.invariant k before is
  | inr past ↦
      let long : length c.args.clients.now ≤ k = omega (arith, past, c.loop-place-test.false) in
      absurd (none-there (sym (get_or_past c.args.clients.now k None long) ∙ is.1))
]
