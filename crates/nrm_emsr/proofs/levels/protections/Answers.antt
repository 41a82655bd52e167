-- One threshold more.
use Rattle.std.proofs.Common.{ℕ, ◌∙◌, ◌+◌, List, [], ◌∷◌, ◌++◌, map, max, sym, ap₂, subst, arith}
use Rattle.std.specs.List.{range_with_len}
use Rattle.std.specs.List.Sorted.{IsPermutation}
use Rattle.std.proofs.lemmas.List.FromFn.{map-range_with_len_more}
use Rattle.nrm_emsr.specs.declared.nest.Nested.{Nested}
use Rattle.nrm_emsr.specs.Protections.{demand_above, protection_of}
use Rattle.nrm_emsr.specs.Inner.Ranked.{Falls}
use Rattle.nrm_emsr.specs.Inner.Sums.{AreSumsOf, AreSumsTo, IsMeanOf}
use Rattle.nrm_emsr.proofs.Least.{protection-more}
use Rattle.nrm_emsr.proofs.Means.{demands-on, fares-on, fares-small, seats-on, weight-small}
use Rattle.nrm_emsr.proofs.levels.protections.Goals as goal

pub enough_for-enough-requires-clause-weight : goal.enough_for-enough-requires-clause-weight
enough_for-enough-requires-clause-weight c = weight-small c.args.net.now c.args.period c.in_ok-nest.nest.items c.in_ok-nest.ensures.few 1 (c.loop-passed.passed + 1) c.loop-passed.sums.above c.loop-passed.invariant.sums.above

pub enough_for-enough-requires-clause-fares : goal.enough_for-enough-requires-clause-fares
enough_for-enough-requires-clause-fares c = fares-small c.args.net.now c.args.period c.in_ok-nest.nest.items c.in_ok-nest.ensures.few 1 (c.loop-passed.passed + 1) c.loop-passed.sums.above c.loop-passed.invariant.sums.above

pub loop-passed-preserved : goal.loop-passed-preserved
loop-passed-preserved c =
    let net = c.args.net.now in
    let cert = c.args.cert.now in
    let leg : ℕ = c.args.leg in
    let period : ℕ = c.args.period in
    let passed : ℕ = c.loop-passed.passed in
    let b : ℕ = passed + 1 in
    let nest : List Nested = c.in_ok-nest.nest.items in
    let nest-is = c.in_ok-nest.ensures.nest in
    let before = c.loop-passed.invariant in
    let same = c.deref-in-loop-passed-2.ensures.value in
    let own = subst (λ (ns : List Nested). IsMeanOf net period ns (b + 1) (b + 1) c.add_next-next.result) same c.add_next-next.ensures.next in
    let copied = c.in_ok-from_slice.ensures.items ∙ c.deref-in-loop-passed.ensures.value ∙ before.sums.demands ∙ demands-on net cert leg period nest nest-is b in
    let are : AreSumsOf net cert leg period b c.loop-passed.sums.above c.add_next-next.result c.deref-in-loop-passed-3.result.now = record {
      seats = seats-on net cert leg period nest nest-is 1 b c.loop-passed.sums.above before.sums.above;
      fares = fares-on net cert leg period nest nest-is 1 b c.loop-passed.sums.above before.sums.above;
      next_seats = seats-on net cert leg period nest nest-is (b + 1) (b + 1) c.add_next-next.result own;
      next_fares = fares-on net cert leg period nest nest-is (b + 1) (b + 1) c.add_next-next.result own;
      demands = subst (λ (xs : List ℕ). IsPermutation (map (demand_above net cert leg period b) (range_with_len 0 net.histories)) xs) (sym c.deref-in-loop-passed-3.ensures.value)
          (subst (λ (xs : List ℕ). IsPermutation xs c.falling-ranked.result.items) copied c.falling-ranked.ensures.moved);
      falls = subst Falls (sym c.deref-in-loop-passed-3.ensures.value) c.falling-ranked.ensures.falls;
    } in
    let f : ℕ → ℕ = protection_of net cert leg period in
    let enough = c.enough_for-enough.ensures period are in
    let next = c.greater-last.ensures ∙ ap₂ max before.last enough ∙ sym (protection-more net cert leg period passed) in
    record {
      levels = c.in_ok-push.ensures.items ∙ ap₂ (λ (made : List ℕ) (x : ℕ). made ++ x ∷ []) before.levels next ∙ sym (map-range_with_len_more f 1 passed (passed + 1) (omega arith));
      last = next;
      sums = subst (λ (ns : List Nested). AreSumsTo net period ns (b + 1) c.add_next-next.new.sums) same c.add_next-next.ensures.sums;
    }
