-- What divisions cost at most: each cost fits 58 bits.
use Rattle.std.proofs.Common.{◌≡◌, ℕ, zero, suc, ◌+◌, ◌*◌, ◌^◌, ◌<◌, ◌≤◌, arith, inl, inr, refl, List, [], ◌∷◌, length, slice_index, sum, Option, Some, None}
use native.Mathlib.Nat.{mul-le-mul}
use Rattle.std.proofs.lemmas.Bool.{cases_lt}
use Rattle.std.proofs.lemmas.List.{get_or_past}
use Rattle.std.proofs.lemmas.List.Sums.{sum_by-cons}
use Rattle.nrm_model.specs.declared.limits.TheConstants.{MOST_FARE}
use Rattle.nrm_cluster.specs.declared.limits.TheConstants.{MOST_WEIGHT}
use Rattle.nrm_cluster.specs.declared.table.Cell.{Cell}
use Rattle.nrm_cluster.specs.Points.{PointsValue, ArePoints}
use Rattle.nrm_cluster.specs.Divisions.{distance, cost_at, cost_from, centre_of, division_cost, first_within}
use Rattle.nrm_cluster.specs.Inner.Table.{Costed, best_into}
use Rattle.nrm_cluster.specs.Inner.Cells.{IsCell, IsSmall}
use Rattle.nrm_cluster.proofs.Tables.{into-some}

pub value-below : (p : PointsValue) (k : ℕ) → ArePoints p → slice_index p.values k ≤ MOST_FARE
value-below p k ok = elim (cases_lt k (length p.values)) [
  | inl less ↦ (ok.values k 0 less).1
  | inr past ↦ omega (arith, get_or_past p.values k 0 past)
]

pub weight-below : (p : PointsValue) (k : ℕ) → ArePoints p → slice_index p.weights k ≤ MOST_WEIGHT
weight-below p k ok = elim (cases_lt k (length p.weights)) [
  | inl less ↦ ok.weights k 0 less
  | inr past ↦ omega (arith, get_or_past p.weights k 0 past)
]

one-below : (p : PointsValue) (c k : ℕ) → ArePoints p → c ≤ MOST_FARE → cost_at p c k ≤ MOST_WEIGHT * MOST_FARE
one-below p c k ok low =
    let near : distance (slice_index p.values k) c ≤ MOST_FARE = omega (arith, value-below p k ok) in
    omega (arith, mul-le-mul (weight-below p k ok) near)

pub piece-below : (p : PointsValue) (c a n : ℕ) → ArePoints p → c ≤ MOST_FARE → cost_from p c a n ≤ n * (MOST_WEIGHT * MOST_FARE)
piece-below p c a zero ok low = omega arith
piece-below p c a (suc n) ok low = omega (arith, piece-below p c a n ok low, one-below p c (a + n) ok low)

pub division-below : (p : PointsValue) (a : ℕ) (ls : List ℕ) → ArePoints p → division_cost p a ls ≤ sum ls * (MOST_WEIGHT * MOST_FARE)
division-below p a [] ok = omega arith
division-below p a (l ∷ ls) ok =
    omega (
      arith,
      piece-below p (centre_of p a l) a l ok (value-below p (a + first_within (λ k. _) l 0) ok),
      division-below p (a + l) ls ok,
      sum_by-cons (λ x. x) l ls,
    )

-- the cost that a cell tells fits
pub cell-below : (p : PointsValue) (pieces a n : ℕ) (cell : Cell) → ArePoints p → n ≤ length p.values → IsCell (best_into p pieces a n) cell → IsSmall cell
cell-below p pieces a n cell ok few is there = go (best_into p pieces a n) refl is
  where
    go : (o : Option Costed) → best_into p pieces a n ≡ o → IsCell o cell → cell.cost < 2 ^ 58
    go None e none = cc
    go (Some d) e some =
        let this = into-some p pieces a n d e in
        omega (arith, some.1, this.costs, division-below p a d.lengths ok, this.division.whole, ok.count)
