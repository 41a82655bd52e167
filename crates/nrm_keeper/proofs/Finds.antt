-- What the fifth text shows.
use Rattle.std.proofs.Common.{◌≡◌, ◌≤◌, ◌∙◌, ℕ, pos, ◌==◌, int_eq, List, [], ◌∷◌, length, map, filter, Bool, true, false, ap}
use Rattle.std.proofs.lemmas.List.{length-map}
use Rattle.sqlite_value.specs.declared.value.Value.TheVariants.{Null, Int}
use Rattle.sqlite_value.specs.Order.{Row}
use Rattle.sqlite_sql.specs.declared.ops.CompareOp.TheVariants.{Eq}
use Rattle.sqlite_keyed.proofs.ListLemmas.{filter_same, map-map}
use Rattle.sqlite_keyed.proofs.RuleLemmas.{at_most_one}
use Rattle.sqlite_typed.proofs.AnswerLemmas.{at_end, last_table, matches_are}
use Rattle.sqlite_typed.proofs.TestLemmas.{last_term, at_ints}
use Rattle.sqlite.specs.Query.{Output, output, IsAnswer}
use Rattle.sqlite.specs.Program.{overlay}
use Rattle.sqlite.specs.Tree.{Trees}
use Rattle.sqlite.specs.State.{State, Shown}
use Rattle.sqlite.proofs.Callers.{reads_as}
use Rattle.nrm_keeper.specs.declared.row.KeptRow.{KeptRow}
use Rattle.nrm_keeper.specs.Rows.{rise}
use Rattle.nrm_keeper.specs.Inner.Table.{find_text, kept_schema, stored, shown}
use Rattle.nrm_keeper.proofs.Texts.{find_query, find_is, find_plain}
use Rattle.nrm_keeper.proofs.Inserts.{key}
use Rattle.nrm_keeper.proofs.Deletes.{keyed, one_order, same_number}

module _ (trees : Trees) (number : ℕ) (rows : List KeptRow) (is : trees 0 ≡ map stored rows) (up : rise rows ≡ true) where
  abbrev has : KeptRow → Bool
  has row = int_eq (key row) (pos number)

  abbrev params : Row
  params = Int (pos number) ∷ []

  abbrev seen : Trees
  seen = overlay trees []

  few : length (filter has rows) ≤ 1
  few = at_most_one key (pos number) has (λ x h. h) rows (keyed rows up)

  answer_is : (found : List Row) → IsAnswer find_query seen params found → found ≡ map shown (filter (λ row. row.number == number) rows)
  answer_is found a =
      let source = last_table seen 0 stored key rows is (keyed rows up) (at_end seen) in
      let all = matches_are find_query seen params source has (λ row. last_term (at_ints false Eq (key row) (pos number))) in
      let staged : a.staged ≡ map (λ row. params ∷ stored row ∷ []) (filter has rows) = a.grouped ∙ all in
      let kept : a.kept ≡ map (λ row. ([], shown row)) (filter has rows) = a.distinct ∙ ap (map (output find_query)) staged ∙ map-map (output find_query) (λ row. params ∷ stored row ∷ []) (filter has rows) in
      let short : length a.kept ≤ 1 = rw kept (rw length-map few) in
      let ordered : a.ordered ≡ a.kept = one_order a.kept a.ordered short a.same in
      a.shown ∙ ap (λ (os : List Output). map (λ (o : Output). o.1) os) (ordered ∙ kept) ∙ map-map (λ (o : Output). o.1) (λ row. ([], shown row)) (filter has rows)
      ∙ ap (map shown) (filter_same has (λ row. row.number == number) (λ row. same_number row.number number) rows)

-- the rows of the number
pub finds : (old new : State) (number : ℕ) (rows : List KeptRow) (found : List Row) → old.now.schema ≡ kept_schema → old.now.trees 0 ≡ map stored rows → rise rows ≡ true
    → Shown find_text (Int (pos number) ∷ []) old new found → found ≡ map shown (filter (λ row. row.number == number) rows)
finds old new number rows found has is up h =
    answer_is old.now.trees number rows is up found ((reads_as find_text (Int (pos number) ∷ []) old new kept_schema has _ find_is.0 find_plain find_is.1 found h).answer Null)
