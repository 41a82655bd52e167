use Rattle.std.proofs.Common.{ℕ, List, ◌≡◌, ◌∙◌, ◌++◌, [], ap, flat_map, get_or, length, refl, sym}
use Rattle.nrm_model.specs.Network.{leg_of}
use Rattle.nrm_report.proofs.NestLines.{protections-held, protections-shown, word}
use Rattle.nrm_report.proofs.nests.line_for_protections.Goals as goal

pub push_protections-requires-clause-nests : goal.push_protections-requires-clause-nests
push_protections-requires-clause-nests c =
    let (cert, of) = c.requires.nested in
    let cuts : c.leg_at-row.result.now.cuts ≡ (leg_of c.args.net.now c.args.leg).cuts = rw (sym c.leg_at-row.ensures.leg) refl in
    protections-held c.args.net.now cert c.args.plan.now of c.args.leg c.requires.leg (length c.as_slice.result.now) (ap length (c.as_slice.ensures ∙ cuts))

pub returns : goal.returns
returns c =
    let (cert, of) = c.requires.nested in
    let name : c.leg_at-row.result.now.name ≡ (leg_of c.args.net.now c.args.leg).name = rw (sym c.leg_at-row.ensures.leg) refl in
    let front = c.push_name.ensures.text ∙ ap (λ (first : List ℕ). first ++ c.leg_at-row.result.now.name) c.of_bytes-line.ensures.text in
    protections-shown c.args.net.now cert c.args.plan.now of c.args.leg c.requires.leg c.leg_at-row.result.now.name c.push_protections.new.line c.push_bytes.new.self name
    (λ nests has. c.push_protections.ensures.text nests has ∙ ap (λ (first : List ℕ). first ++ flat_map word (get_or nests.protections c.args.leg [])) front)
    c.push_bytes.ensures.text
