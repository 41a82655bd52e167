-- From the table to the chosen division: the fewest pieces of the cheapest, and the walk over their lengths.
use Rattle.std.proofs.Common.{◌≡◌, ℕ, zero, suc, ◌+◌, ◌-◌, ◌<◌, ◌≤◌, arith, refl, sym, ap, ap₂, subst, ◌∙◌, List, [], ◌∷◌, ◌++◌, length, get_or, Option, Some, None, Vec}
use Rattle.std.specs.declared.alloc.Global.{Global}
use Rattle.std.proofs.lemmas.List.{append_assoc}
use Rattle.nrm_cluster.specs.declared.table.Cell.{Cell}
use Rattle.nrm_cluster.specs.declared.chosen.Pick.{Pick}
use Rattle.nrm_cluster.specs.Points.{PointsValue}
use Rattle.nrm_cluster.specs.Divisions.{division_cost, IsChosen}
use Rattle.nrm_cluster.specs.Inner.Table.{Costed, cheapest, led_by, best_into, best_division, into_pieces}
use Rattle.nrm_cluster.specs.Inner.Cells.{IsCell, IsColumn, AreColumns, IsPick, columns_in, first_of}
use Rattle.nrm_cluster.proofs.Tables.{IsCheapest, cheapest-some, table-chooses}
use Rattle.nrm_cluster.proofs.Columns.{with_first, column-read}

-- the division that was picked
pub picked : (p : PointsValue) (groups : ℕ) (pick : Pick) (lengths : List ℕ) → 0 < length p.values → 0 < groups → IsPick (into_pieces p) (best_division p groups) pick → (d : Costed) × (into_pieces p pick.pieces ≡ Some d) × (lengths ≡ d.lengths)
    → IsChosen p groups lengths × (pick.cell.cost ≡ division_cost p 0 lengths)
picked p groups pick lengths some any is (d, here, same) =
    let (e, chosen, best, costs) = table-chooses p groups some any in
    let (tells, there) = subst (λ o. IsPick (into_pieces p) o pick) chosen is in
    let equal : e ≡ d = cc in
    let lens : e.lengths ≡ lengths = ap (λ (x : Costed). x.lengths) equal ∙ sym same in
    (subst (IsChosen p groups) lens best, tells.1 ∙ costs ∙ ap (division_cost p 0) lens)

pub pick-there : (p : PointsValue) (groups : ℕ) (pick : Pick) → 0 < length p.values → 0 < groups → IsPick (into_pieces p) (best_division p groups) pick → (d : Costed) × (into_pieces p pick.pieces ≡ Some d)
pick-there p groups pick some any is =
    let (e, chosen, best, costs) = table-chooses p groups some any in
    let (tells, there) = subst (λ o. IsPick (into_pieces p) o pick) chosen is in
    (e, there)

-- ---- the walk over the first lengths
pub record IsWalk (p : PointsValue) (pieces done a : ℕ) (lengths : List ℕ) : Type 0 where
  pub within : a ≤ length p.values
  pub whole : Costed
  pub is_whole : into_pieces p pieces ≡ Some whole
  pub rest : Costed
  pub is_rest : best_into p (pieces - done) a (length p.values - a) ≡ Some rest
  pub joined : lengths ++ rest.lengths ≡ whole.lengths

pub record HasLed (p : PointsValue) (pieces a n : ℕ) (d : Costed) : Type 0 where
  pub first : ℕ
  pub few : first ≤ n
  pub rest : Costed
  pub is_rest : best_into p pieces (a + first) (n - first) ≡ Some rest
  pub led : d ≡ led_by p a first rest

led-from : (p : PointsValue) (pieces a n : ℕ) (d : Costed) → best_into p (suc pieces) a n ≡ Some d → HasLed p pieces a n d
led-from p pieces a n d h = go (best_into p pieces (a + is.place) (n - is.place)) refl
  where
    is : IsCheapest (with_first p pieces a n) n d
    is = cheapest-some (with_first p pieces a n) n d h

    go : (o : Option Costed) → best_into p pieces (a + is.place) (n - is.place) ≡ o → HasLed p pieces a n d
    go None e = let no : with_first p pieces a n is.place ≡ None = rw e refl in let yes = is.is in cc
    go (Some r) e =
        let led : with_first p pieces a n is.place ≡ Some (led_by p a is.place r) = rw e refl in
        let there = is.is in
        record { first = is.place; few = is.within; rest = r; is_rest = e; led = cc }

pub walk-more : (p : PointsValue) (groups pieces done a n : ℕ) (columns : List (Vec Cell Global)) (column : Vec Cell Global) (cell : Cell) (lengths more : List ℕ) → AreColumns p groups (columns_in columns) → length columns ≡ length p.values + 1
    → pieces ≤ groups → done < pieces → column ≡ get_or columns (length p.values - a) column → cell ≡ get_or column.items (pieces - done) cell
    → n ≡ cell.first → more ≡ lengths ++ n ∷ [] → IsWalk p pieces done a lengths → IsWalk p pieces (done + 1) (a + n) more
walk-more p groups pieces done a n columns column cell lengths more are count few before read there first grown is = record {
  within = omega (arith, led.few, same, is.within);
  whole = is.whole;
  is_whole = is.is_whole;
  rest = led.rest;
  is_rest = moved;
  joined = ap (λ ls. ls ++ led.rest.lengths) grown ∙ append_assoc lengths (n ∷ []) led.rest.lengths ∙ ap (λ ls. lengths ++ ls) (ap (λ l. l ∷ led.rest.lengths) same ∙ sym (ap (λ (x : Costed). x.lengths) led.led)) ∙ is.joined;
}
  where
    left : pieces - done ≡ suc (pieces - (done + 1))
    left = omega arith

    led : HasLed p (pieces - (done + 1)) a (length p.values - a) is.rest
    led = led-from p (pieces - (done + 1)) a (length p.values - a) is.rest (sym (ap (λ k. best_into p k a (length p.values - a)) left) ∙ is.is_rest)

    back : length p.values - (length p.values - a) ≡ a
    back = omega (arith, is.within)

    whole : IsColumn p groups (length p.values - a) column.items
    whole = column-read p groups columns (length p.values - a) column column.items are (omega arith) read refl

    tells : IsCell (Some is.rest) cell
    tells =
        subst (λ o. IsCell o cell) (ap (λ b. best_into p (pieces - done) b (length p.values - a)) back ∙ is.is_rest)
        (subst (IsCell (best_into p (pieces - done) (length p.values - (length p.values - a)) (length p.values - a))) (sym there) (whole.cells (pieces - done) cell (omega arith)))

    same : n ≡ led.first
    same = first ∙ tells.2 ∙ ap (λ (x : Costed). first_of x.lengths) led.led

    place : a + led.first ≡ a + n
    place = ap (λ k. a + k) (sym same)

    width : length p.values - a - led.first ≡ length p.values - (a + n)
    width = omega (arith, same)

    moved : best_into p (pieces - (done + 1)) (a + n) (length p.values - (a + n)) ≡ Some led.rest
    moved = sym (ap₂ (best_into p (pieces - (done + 1))) place width) ∙ led.is_rest
