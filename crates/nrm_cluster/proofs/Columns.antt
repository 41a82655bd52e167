-- Columns: each cell is that of the best division, as one first piece after another is tried.
use Rattle.std.proofs.Common.{◌≡◌, ◌==◌, ℕ, zero, suc, ◌+◌, ◌-◌, ◌<◌, ◌≤◌, true, false, arith, inl, inr, refl, sym, ap, ap₂, subst, ◌∙◌, List, [], ◌++◌, length, get_or, take, drop, All, Option, Some, None, Vec, nat_lt, ne_eqb}
use Rattle.std.specs.declared.alloc.Global.{Global}
use Rattle.std.specs.Option.{option_map}
use Rattle.std.proofs.lemmas.Bool.{cases_Bool}
use Rattle.std.proofs.lemmas.List.{append-nil, drop_all, take_all, get_or-map, length-map}
use Rattle.nrm_cluster.specs.declared.table.Cell.{Cell}
use Rattle.nrm_cluster.specs.Points.{PointsValue, ArePoints}
use Rattle.nrm_cluster.specs.Divisions.{piece_cost}
use Rattle.nrm_cluster.specs.Inner.Table.{Costed, cheaper, cheapest, led_by, best_into}
use Rattle.nrm_cluster.specs.Inner.Cells.{IsCell, IsSmall, IsColumn, AreColumns, columns_in, cheaper_of, led_of}
use Rattle.nrm_cluster.proofs.Bounds.{cell-below}

-- ---- steps on cells
pub cheaper-is : (o q : Option Costed) (one other : Cell) → IsCell o one → IsCell q other → IsCell (cheaper o q) (cheaper_of one other)
cheaper-is None None one other is also = rw also is
cheaper-is None (Some b) one other is also = subst (IsCell (Some b)) (sym other-is) also
  where
    other-is : cheaper_of one other ≡ other
    other-is = rw (also.0, is) refl
cheaper-is (Some a) None one other is also = rw also is
cheaper-is (Some a) (Some b) one other is also = elim (cases_Bool (nat_lt b.cost a.cost)) [
  | inl less ↦
      let same : nat_lt other.cost one.cost ≡ true = ap₂ nat_lt also.1 is.1 ∙ less in
      let other-is : cheaper_of one other ≡ other = rw (also.0, is.0, same) refl in
      subst (λ o. IsCell o (cheaper_of one other)) (sym (second less)) (subst (IsCell (Some b)) (sym other-is) also)
  | inr more ↦
      let same : nat_lt other.cost one.cost ≡ false = ap₂ nat_lt also.1 is.1 ∙ more in
      let one-is : cheaper_of one other ≡ one = rw (also.0, is.0, same) refl in
      subst (λ o. IsCell o (cheaper_of one other)) (sym (first more)) (subst (IsCell (Some a)) (sym one-is) is)
]
  where
    second : nat_lt b.cost a.cost ≡ true → cheaper (Some a) (Some b) ≡ Some b
    second less = rw less refl

    first : nat_lt b.cost a.cost ≡ false → cheaper (Some a) (Some b) ≡ Some a
    first more = rw more refl

pub led-is : (p : PointsValue) (a l cost : ℕ) (o : Option Costed) (rest : Cell) → cost ≡ piece_cost p a l → IsCell o rest → IsCell (option_map (led_by p a l) o) (led_of cost l rest)
led-is p a l cost None rest e is = rw is refl
led-is p a l cost (Some d) rest e is = rw is.0 (refl, ap₂ (λ x y. x + y) e is.1, refl)

-- ---- a column of so many values left, when the first pieces of so many values were tried
abbrev pub with_first : PointsValue → ℕ → ℕ → ℕ → ℕ → Option Costed
with_first p pieces a n l = option_map (led_by p a l) (best_into p pieces (a + l) (n - l))

pub record IsColumnSoFar (p : PointsValue) (groups left tried : ℕ) (column : List Cell) : Type 0 where
  pub long : length column ≡ groups + 1
  pub none : (d : Cell) → IsCell (best_into p 0 (length p.values - left) left) (get_or column 0 d)
  pub some : (k : ℕ) (d : Cell) → k < groups → IsCell (cheapest (with_first p k (length p.values - left) left) tried) (get_or column (k + 1) d)

pub column-starts : (p : PointsValue) (groups left : ℕ) (column : List Cell) → length column ≡ groups + 1
    → ((d : Cell) → get_or column 0 d ≡ record { there = left == 0; cost = 0; first = 0 })
    → ((k : ℕ) (d : Cell) → k < groups → (get_or column (k + 1) d).there ≡ false) → IsColumnSoFar p groups left 0 column
column-starts p groups zero column long first rest =
    record { long = long; none = λ d. subst (IsCell (best_into p 0 (length p.values - 0) 0)) (sym (first d)) (refl, refl, refl); some = rest }
column-starts p groups (suc left) column long first rest =
    let some : suc left == 0 ≡ false = ne_eqb (suc left) 0 (λ same. omega (arith, same)) in
    record { long = long; none = λ d. subst (IsCell (best_into p 0 (length p.values - suc left) (suc left))) (sym (first d)) some; some = rest }

pub column-more : (p : PointsValue) (groups left before cost : ℕ) (column next rest : List Cell) → before < left → left ≤ length p.values
    → cost ≡ piece_cost p (length p.values - left) (before + 1) → IsColumn p groups (left - (before + 1)) rest
    → length next ≡ length column → ((d : Cell) → get_or next 0 d ≡ get_or column 0 d)
    → ((k : ℕ) (d : Cell) → k + 1 < length column → get_or next (k + 1) d ≡ cheaper_of (get_or column (k + 1) d) (led_of cost (before + 1) (get_or rest k d)))
    → IsColumnSoFar p groups left before column → IsColumnSoFar p groups left (before + 1) next
column-more p groups left before cost column next rest few within paid is long first cells so-far = record {
  long = long ∙ so-far.long;
  none = λ d. subst (IsCell (best_into p 0 a left)) (sym (first d)) (so-far.none d);
  some = λ k d short. subst (IsCell (cheapest (with_first p k a left) (before + 1))) (sym (cells k d (omega (arith, so-far.long))))
      (subst (λ n. IsCell (cheapest (with_first p k a left) n) (cheaper_of (get_or column (k + 1) d) (led_of cost (before + 1) (get_or rest k d)))) one
      (cheaper-is (cheapest (with_first p k a left) before) (with_first p k a left (suc before)) (get_or column (k + 1) d) (led_of cost (before + 1) (get_or rest k d)) (so-far.some k d short)
      (subst (λ l. IsCell (with_first p k a left l) (led_of cost (before + 1) (get_or rest k d))) (sym one)
      (led-is p a (before + 1) cost (best_into p k (a + (before + 1)) (left - (before + 1))) (get_or rest k d) paid (subst (λ b. IsCell (best_into p k b (left - (before + 1))) (get_or rest k d)) place (is.cells k d (omega arith)))))));
}
  where
    a : ℕ
    a = length p.values - left

    one : suc before ≡ before + 1
    one = omega arith

    place : length p.values - (left - (before + 1)) ≡ length p.values - left + (before + 1)
    place = omega arith

pub column-done : (p : PointsValue) (groups left tried : ℕ) (column : List Cell) → left ≤ tried → tried ≤ left → IsColumnSoFar p groups left tried column → IsColumn p groups left column
column-done p groups left tried column all few so-far = record { long = so-far.long; cells = cells }
  where
    same : tried ≡ left
    same = omega arith

    cells : (pieces : ℕ) (d : Cell) → pieces ≤ groups → IsCell (best_into p pieces (length p.values - left) left) (get_or column pieces d)
    cells zero d short = so-far.none d
    cells (suc k) d short =
        let next : k + 1 ≡ suc k = omega arith in
        subst (λ i. IsCell (best_into p (suc k) (length p.values - left) left) (get_or column i d)) next
        (subst (λ n. IsCell (cheapest (with_first p k (length p.values - left) left) n) (get_or column (k + 1) d)) same (so-far.some k d (omega arith)))

-- the cells of a column are small
pub column-small : (p : PointsValue) (groups left : ℕ) (column : List Cell) → ArePoints p → left ≤ length p.values → IsColumn p groups left column → All IsSmall column
column-small p groups left column ok few is k d short = cell-below p k (length p.values - left) left (get_or column k d) ok few (is.cells k d (omega (arith, is.long)))

-- ---- lists of columns
-- what columns[k] holds
pub column-read : (p : PointsValue) (groups : ℕ) (columns : List (Vec Cell Global)) (k : ℕ) (v : Vec Cell Global) (column : List Cell) → AreColumns p groups (columns_in columns) → k < length columns → v ≡ get_or columns k v → column ≡ v.items
    → IsColumn p groups k column
column-read p groups columns k v column are few read same =
    subst (IsColumn p groups k) (sym (same ∙ ap (λ (w : Vec Cell Global). w.items) read ∙ sym (get_or-map (λ (w : Vec Cell Global). w.items) columns k v [] few)))
    (are k [] (omega (arith, length-map columns (λ (w : Vec Cell Global). w.items))))

-- what is written through a slice of a whole list is the list
pub written-over : (new old : List Cell) (len : ℕ) → length new ≡ length old → len ≡ length old → take len (new ++ drop (length new) old) ≡ new
written-over new old len same whole = ap (λ t. take len (new ++ t)) (drop_all (length new) old (omega arith)) ∙ ap (take len) (append-nil new) ∙ take_all len new (omega arith)
