-- Each byte of the line is cut as the definition cuts it, and its end ends the last field.
use Rattle.std.proofs.Common.{◌+◌, ℕ, List, [], ◌∷◌, arith, get_or, length-append, refl, subst, take}
use Rattle.nrm_network.specs.Inner.Lines.{Cutting, cut_at_commas, line_fields}
use Rattle.nrm_network.proofs.LineCuts.{CutTo, cut-comma, cut-next, cut-other, held-alone, held-more, line-more}
use Rattle.nrm_network.proofs.line.first_line.Goals as goal
use Rattle.nrm_network.proofs.line.first_line.Goals.{then-bytes-end-eq44, else-bytes-end-eq44}

pub loop-end-preserved : goal.loop-end-preserved
loop-end-preserved c =
    let bytes : List ℕ = c.args.bytes.now in
    let end : ℕ = c.loop-end.end in
    let inv = c.loop-end.invariant in
    let short = c.loop-end-test.true in
    let inside = rw c.if-goes_on.true at c.goes_on.ensures in
    let line = line-more bytes end short inside inv.line in
    let next = cut-next bytes end short in
    let cutting = cut_at_commas (take end bytes) in
    elim c.if-bytes-end-eq44.branch [
      | then-bytes-end-eq44 w ↦ rw (w.starts-is, w.count-is) (record {
        within = omega arith;
        line = line;
        cut = subst (λ (after : Cutting). CutTo bytes (end + 1) after (c.loop-end.count + 1) w.mark.new.starts) next
            (cut-comma bytes end cutting c.loop-end.count c.loop-end.starts w.mark.new.starts (get_or bytes end 0) inv.cut w.mark.ensures
            w.if-bytes-end-eq44.true);
      })
      | else-bytes-end-eq44 w ↦ rw (w.starts-is, w.count-is) (record {
        within = omega arith;
        line = line;
        cut = subst (λ (after : Cutting). CutTo bytes (end + 1) after c.loop-end.count c.loop-end.starts) next
            (cut-other bytes end cutting c.loop-end.count c.loop-end.starts (get_or bytes end 0) inv.cut short refl
            w.if-bytes-end-eq44.false);
      })
    ]

pub invariant_of-result : goal.invariant_of-result
invariant_of-result c =
    let bytes : List ℕ = c.args.bytes.now in
    let end : ℕ = c.loop-end.end in
    let inv = c.loop-end.invariant in
    let cutting = cut_at_commas (take end bytes) in
    let counted = inv.cut.counted in (
      omega (arith, counted, length-append cutting.0 (cutting.1 ∷ [])),
      c.mark-2.array_long,
      held-alone bytes end (line_fields (take end bytes)) c.mark-2.new.starts inv.within
          (held-more bytes end cutting c.loop-end.count c.loop-end.starts c.mark-2.new.starts inv.cut c.mark-2.ensures),
    )
