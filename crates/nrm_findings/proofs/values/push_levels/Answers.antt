use Rattle.std.proofs.Common.{ℕ, ◌≡◌, ◌∙◌, ◌+◌, ◌-◌, ◌<◌, ◌++◌, arith, drop, flat_map, length, subst, sym, take}
use Rattle.nrm_findings.proofs.LegTexts.{behind-first, length-behind, number_word, one-more}
use Rattle.nrm_findings.proofs.values.push_levels.Goals as goal

pub push_spaced-requires : goal.push_spaced-requires
push_spaced-requires c = omega (arith, c.loop-j.invariant.length, c.loop-j.invariant.some, c.requires.room, c.requires.classes.1, c.loop-j-test.true)

pub loop-j-preserved : goal.loop-j-preserved
loop-j-preserved c =
    let l = c.loop-j in
    let levels = c.args.table.now.protections in
    let below : l.j - 1 < length (drop 1 levels) = omega (arith, length-behind levels, c.requires.levels, l.invariant.some, c.loop-j-test.true) in
    let next : (l.j + 1) - 1 ≡ (l.j - 1) + 1 = omega (arith, l.invariant.some) in
    record {
      text =
          subst (λ (k : ℕ). c.push_spaced.new.self ≡ c.args.text.now ++ flat_map number_word (take k (drop 1 levels))) (sym next)
          (one-more number_word (drop 1 levels) c.args.text.now l.text c.push_spaced.new.self c.from.result (l.j - 1) below (c.from.ensures ∙ c.protection.ensures ∙ behind-first levels l.j l.invariant.some) l.invariant.text c.push_spaced.ensures.text);
      length = omega (arith, c.push_spaced.ensures.length, l.invariant.length, l.invariant.some);
      some = omega arith;
    }
