-- From all histories down, no count above this one passes; the first that does is the greatest.
use Rattle.std.proofs.Common.{ℕ, ◌≡◌, ◌∙◌, Bool, false, true, sym, arith}
use Rattle.nrm_emsr.specs.Inner.Sums.{crosses}
use Rattle.nrm_emsr.proofs.Places.{greatest-no, greatest-yes}
use Rattle.nrm_emsr.proofs.compared.most_that_pass.Goals as goal

pub loop-count-preserved : goal.loop-count-preserved
loop-count-preserved c =
    let test : ℕ → Bool = λ count. crosses count c.args.above.fares c.args.above.seats c.args.histories c.args.next.fares c.args.next.seats in
    let fails : test c.loop-count.count ≡ false = sym c.passes.ensures ∙ c.if-not-passes.true in
    record {
      within = omega arith;
      same = greatest-no test c.loop-count.count c.loop-count-test.true fails ∙ c.loop-count.invariant.same;
    }

pub returns-else-not-passes : goal.returns-else-not-passes
returns-else-not-passes c =
    let test : ℕ → Bool = λ count. crosses count c.args.above.fares c.args.above.seats c.args.histories c.args.next.fares c.args.next.seats in
    let passes : test c.loop-count.count ≡ true = sym c.passes.ensures ∙ c.if-not-passes.false in
    sym (greatest-yes test c.loop-count.count passes) ∙ c.loop-count.invariant.same
