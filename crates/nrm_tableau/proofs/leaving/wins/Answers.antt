-- The lists that are compared have the columns of the rule.
use Rattle.std.proofs.Common.{◌≡◌, ◌∙◌, sym, ap, subst, arith, List, length, get_or, [], suc, pos, Some}
use Rattle.std.proofs.lemmas.List.{get_or_read}
use Rattle.nrm_fraction.specs.Fraction.{Fraction, ◌<ᶠ◌, whole}
use Rattle.nrm_fraction.specs.Rows.{at}
use Rattle.nrm_lp.specs.Tableau.{right_side}
use Rattle.nrm_tableau.specs.Inner.Best.{IsCandidate, wins_over}
use Rattle.nrm_tableau.proofs.Turns.{less_told}
use Rattle.nrm_tableau.proofs.leaving.wins.Goals as goal

pub less_ratio-requires : goal.less_ratio-requires
less_ratio-requires c =
    let a = c.args.program.now in
    let rows = c.args.rows.now in
    let other : IsCandidate rows c.args.col (Some c.in-Some.other) = subst (IsCandidate rows c.args.col) c.in-Some.is c.requires.candidate in
    let own_is : c.index-rows-from.result ≡ get_or rows c.args.row [] = get_or_read rows c.from.result c.index-rows-from.result (omega (arith, c.from.ensures)) c.index-rows-from.is [] ∙ ap (λ i. get_or rows i []) c.from.ensures in
    let its_is : c.index-rows-from-in-Some.result ≡ get_or rows c.in-Some.other [] = get_or_read rows c.from-in-Some.result c.index-rows-from-in-Some.result (omega (arith, c.from-in-Some.ensures, other.0)) c.index-rows-from-in-Some.is [] ∙ ap (λ i. get_or rows i []) c.from-in-Some.ensures in
    let own_width : length c.index-rows-from.result ≡ suc (right_side a) = ap length own_is ∙ c.requires.widths c.args.row [] c.requires.within in
    let its_width : length c.index-rows-from-in-Some.result ≡ suc (right_side a) = ap length its_is ∙ c.requires.widths c.in-Some.other [] other.0 in
    record {
      widths = its_width ∙ sym own_width;
      within = omega (arith, c.requires.before);
      from_within = omega (arith, c.product_count.ensures.count);
      positive = subst (λ (xs : List Fraction). whole (pos 0) <ᶠ at xs c.args.col) (sym own_is) c.requires.positive;
      other_positive = subst (λ (xs : List Fraction). whole (pos 0) <ᶠ at xs c.args.col) (sym its_is) other.1;
    }

pub returns-in-Some : goal.returns-in-Some
returns-in-Some c =
    let a = c.args.program.now in
    let rows = c.args.rows.now in
    let other : IsCandidate rows c.args.col (Some c.in-Some.other) = subst (IsCandidate rows c.args.col) c.in-Some.is c.requires.candidate in
    let own_is : c.index-rows-from.result ≡ get_or rows c.args.row [] = get_or_read rows c.from.result c.index-rows-from.result (omega (arith, c.from.ensures)) c.index-rows-from.is [] ∙ ap (λ i. get_or rows i []) c.from.ensures in
    let its_is : c.index-rows-from-in-Some.result ≡ get_or rows c.in-Some.other [] = get_or_read rows c.from-in-Some.result c.index-rows-from-in-Some.result (omega (arith, c.from-in-Some.ensures, other.0)) c.index-rows-from-in-Some.is [] ∙ ap (λ i. get_or rows i []) c.from-in-Some.ensures in
    let own_width : length c.index-rows-from.result ≡ suc (right_side a) = ap length own_is ∙ c.requires.widths c.args.row [] c.requires.within in
    less_told a rows c.args.col c.args.row c.in-Some.other c.index-rows-from.result c.index-rows-from-in-Some.result c.product_count.result c.less_ratio.result own_is its_is own_width c.product_count.ensures.count c.less_ratio.ensures
    ∙ ap (wins_over a rows c.args.col c.args.row) (sym c.in-Some.is)
