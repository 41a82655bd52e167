-- A row with a positive entry may take the place of the best so far.
use Rattle.std.proofs.Common.{◌≡◌, ◌∙◌, sym, ap, arith, get_or, [], pos}
use Rattle.std.proofs.lemmas.List.{get_or_read}
use Rattle.nrm_fraction.specs.Fraction.{less, whole}
use Rattle.nrm_fraction.specs.Rows.{at}
use Rattle.nrm_tableau.proofs.Turns.{candidate_taken}
use Rattle.nrm_tableau.proofs.leaving.better_row.Goals as goal

pub wins-requires-clause-positive : goal.wins-requires-clause-positive
wins-requires-clause-positive c =
    let rows = c.args.rows.now in
    let own_is : c.index-rows-from.result ≡ get_or rows c.args.row [] = get_or_read rows c.from.result c.index-rows-from.result (omega (arith, c.from.ensures)) c.index-rows-from.is [] ∙ ap (λ i. get_or rows i []) c.from.ensures in
    (candidate_taken c.args.program.now rows c.args.col c.args.row c.requires.within (ap (λ xs. less (whole (pos 0)) (at xs c.args.col)) (sym own_is) ∙ sym c.is_positive.ensures ∙ c.if-is_positive.true)).1

pub returns-then-wins-clause-candidate : goal.returns-then-wins-clause-candidate
returns-then-wins-clause-candidate c =
    let rows = c.args.rows.now in
    let own_is : c.index-rows-from.result ≡ get_or rows c.args.row [] = get_or_read rows c.from.result c.index-rows-from.result (omega (arith, c.from.ensures)) c.index-rows-from.is [] ∙ ap (λ i. get_or rows i []) c.from.ensures in
    candidate_taken c.args.program.now rows c.args.col c.args.row c.requires.within (ap (λ xs. less (whole (pos 0)) (at xs c.args.col)) (sym own_is) ∙ sym c.is_positive.ensures ∙ c.if-is_positive.true)
