-- The entries put are those of the whole row.
use Rattle.std.proofs.Common.{◌+◌, ◌∙◌, arith, to_z-of_z, SFits, w64}
use Rattle.std.proofs.lemmas.Int.{ints}
use Rattle.nrm_lp.specs.Tableau.{first_entry, right_side}
use Rattle.nrm_tableau.proofs.FirstEntries.{closed_list, width_within, made_row}
use Rattle.nrm_tableau.proofs.first.closed_row.Goals as goal

pub of-requires : goal.of-requires
of-requires c =
    let a = c.args.program.now in
    let fits : SFits w64 c.from.result = search ints in
    let filled = closed_list a c.slack.ensures.limits c.args.row c.args.bound c.slack.result c.right_side-end.result _ c.args.entries.items c.push.new.self.items c.deref.result.now c.requires.row c.requires.bound c.slack.ensures.column c.right_side-end.ensures.column (to_z-of_z fits ∙ c.from.ensures) c.in_ok-push.ensures.items (c.deref.ensures.value ∙ c.in_ok-push-2.ensures.items) c.requires.products in
    record { width = width_within a c.slack.ensures.limits c.right_side-end.result c.right_side-end.ensures.column; entries = filled.columns }

pub returns : goal.returns
returns c =
    let a = c.args.program.now in
    let fits : SFits w64 c.from.result = search ints in
    let filled = closed_list a c.slack.ensures.limits c.args.row c.args.bound c.slack.result c.right_side-end.result _ c.args.entries.items c.push.new.self.items c.deref.result.now c.requires.row c.requires.bound c.slack.ensures.column c.right_side-end.ensures.column (to_z-of_z fits ∙ c.from.ensures) c.in_ok-push.ensures.items (c.deref.ensures.value ∙ c.in_ok-push-2.ensures.items) c.requires.products in
    made_row c.of.result (c.right_side-end.result + 1) (right_side a) (first_entry a c.args.row) c.deref.result.now (omega (arith, c.right_side-end.ensures.column)) filled c.of.ensures
