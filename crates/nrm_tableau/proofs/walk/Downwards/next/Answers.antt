-- The word before where nothing is left of this one, and else its highest bit.
use Rattle.std.proofs.Common.{◌≡◌, ◌+◌, ◌*◌, arith, refl, subst, Some}
use Rattle.nrm_tableau.specs.Inner.Walks.{HasNone, IsLast}
use Rattle.nrm_tableau.proofs.Walks.{last_ahead, none_above_word, none_on, previous_word, taken_back, taken_last}
use Rattle.nrm_tableau.proofs.walk.Downwards.next.Goals as goal

pub invariant_of-self : goal.invariant_of-self
invariant_of-self c =
    let s = c.loop-self.self in
    record { kept = previous_word s.words.now s.place s.rest s.end s.kept (omega arith) }

pub loop-self-preserved : goal.loop-self-preserved
loop-self-preserved c =
    let s = c.loop-self.self in
    let inv = c.loop-self.invariant in
    let turned : 64 * s.place ≡ s.place * 64 = omega arith in
    let none : HasNone c.args.self.now.words.now (s.place * 64) s.end = subst (λ i. HasNone c.args.self.now.words.now i s.end) turned (subst (λ ws. HasNone ws (64 * s.place) s.end) inv.same (none_above_word s.words.now s.place s.rest s.end s.kept c.loop-self-test.true)) in
    record {
      same = inv.same;
      high = omega (arith, inv.high, s.kept.here);
      none = none_on c.args.self.now.words.now (s.place * 64) s.end c.args.self.now.end none inv.none;
    }

pub invariant_of-self-2 : goal.invariant_of-self-2
invariant_of-self-2 c =
    let s = c.loop-self.self in
    let bit = c.highest-bit.ensures in
    record { kept = taken_back s.words.now s.place s.rest s.end s.kept c.highest-bit.result bit.within bit.there bit.none_above }

pub returns-clause-next : goal.returns-clause-next
returns-clause-next c =
    let s = c.loop-self.self in
    let inv = c.loop-self.invariant in
    let bit = c.highest-bit.ensures in
    let words = c.args.self.now.words.now in
    let row = s.place * 64 + c.highest-bit.result in
    let last : IsLast words s.end row = subst (λ ws. IsLast ws s.end row) inv.same (taken_last s.words.now s.place s.rest s.end s.kept c.highest-bit.result bit.within bit.there bit.none_above) in
    (last_ahead words s.end c.args.self.now.end (Some row) inv.none inv.high last, refl)
