-- The next word where nothing is left of this one, and else its lowest bit.
use Rattle.std.proofs.Common.{◌+◌, ◌*◌, arith, length, refl, subst, Some}
use Rattle.nrm_tableau.specs.Inner.Walks.{HasNone, IsFirst}
use Rattle.nrm_tableau.proofs.Walks.{first_after, next_word, none_in_word, none_on, none_to, taken_first, taken_on}
use Rattle.nrm_tableau.proofs.walk.Upwards.next.Goals as goal

pub invariant_of-self : goal.invariant_of-self
invariant_of-self c =
    let s = c.loop-self.self in
    record { kept = next_word s.words.now s.place s.rest s.from s.kept c.if-place-self.false }

pub loop-self-preserved : goal.loop-self-preserved
loop-self-preserved c =
    let s = c.loop-self.self in
    let inv = c.loop-self.invariant in
    let start = c.args.self.now.from in
    let none : HasNone c.args.self.now.words.now s.from (64 * (s.place + 1)) = subst (λ ws. HasNone ws s.from (64 * (s.place + 1))) inv.same (none_in_word s.words.now s.place s.rest s.from s.kept c.loop-self-test.true) in
    record {
      same = inv.same;
      low = omega (arith, inv.low, s.kept.near);
      none = none_to c.args.self.now.words.now start (64 * (s.place + 1)) ((s.place + 1) * 64) (none_on c.args.self.now.words.now start s.from (64 * (s.place + 1)) inv.none none) (omega arith);
    }

pub invariant_of-self-2 : goal.invariant_of-self-2
invariant_of-self-2 c =
    let s = c.loop-self.self in
    let bit = c.lowest-bit.ensures in
    record { kept = taken_on s.words.now s.place s.rest s.from s.kept c.lowest-bit.result bit.within bit.there bit.none_below }

pub returns-clause-next : goal.returns-clause-next
returns-clause-next c =
    let s = c.loop-self.self in
    let inv = c.loop-self.invariant in
    let bit = c.lowest-bit.ensures in
    let words = c.args.self.now.words.now in
    let row = s.place * 64 + c.lowest-bit.result in
    let first : IsFirst words s.from (64 * length words) row = subst (λ ws. IsFirst ws s.from (64 * length ws) row) inv.same (taken_first s.words.now s.place s.rest s.from s.kept c.lowest-bit.result bit.within bit.there bit.none_below) in
    (first_after words c.args.self.now.from s.from (64 * length words) (Some row) inv.none inv.low first, refl)
