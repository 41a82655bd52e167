-- The walk over the pieces of a division.
use Rattle.std.proofs.Common.{◌≡◌, ℕ, ◌+◌, ◌-◌, ◌<◌, arith, sym, ap, ◌∙◌, slice_index, List, [], ◌∷◌, ◌++◌, get_or, drop, sum, length}
use Rattle.std.proofs.lemmas.List.{append_assoc, drop_more}
use Rattle.std.proofs.lemmas.List.Sums.{sum_by-cons}
use Rattle.nrm_cluster.specs.Points.{PointsValue}
use Rattle.nrm_cluster.specs.Divisions.{centre_of, centres_from, cuts_from}

-- a list that is made piece by piece
pub record IsListing (made : ℕ → List ℕ → List ℕ) (p : PointsValue) (lengths : List ℕ) (k a : ℕ) (items : List ℕ) : Type 0 where
  pub whole : a + sum (drop k lengths) ≡ length p.values
  pub joined : items ++ made a (drop k lengths) ≡ made 0 lengths

sum-next : (lengths : List ℕ) (k : ℕ) → k < length lengths → sum (drop k lengths) ≡ get_or lengths k 0 + sum (drop (k + 1) lengths)
sum-next lengths k few = ap sum (drop_more lengths k 0 few) ∙ sum_by-cons (λ x. x) (get_or lengths k 0) (drop (k + 1) lengths)

pub centres-more : (p : PointsValue) (lengths : List ℕ) (k a : ℕ) (items more : List ℕ) (c : ℕ) → k < length lengths → IsListing (centres_from p) p lengths k a items → c ≡ centre_of p a (get_or lengths k 0) → more ≡ items ++ c ∷ []
    → IsListing (centres_from p) p lengths (k + 1) (a + get_or lengths k 0) more
centres-more p lengths k a items more c few is e g = record {
  whole = omega (arith, is.whole, sum-next lengths k few);
  joined =
      ap (λ ls. ls ++ centres_from p (a + get_or lengths k 0) (drop (k + 1) lengths)) g
      ∙ append_assoc items (c ∷ []) (centres_from p (a + get_or lengths k 0) (drop (k + 1) lengths))
      ∙ ap (λ x. items ++ x ∷ centres_from p (a + get_or lengths k 0) (drop (k + 1) lengths)) e
      ∙ ap (λ ls. items ++ centres_from p a ls) (sym (drop_more lengths k 0 few))
      ∙ is.joined;
}

pub cuts-more : (p : PointsValue) (lengths : List ℕ) (k a : ℕ) (items more : List ℕ) (v : ℕ) → k + 1 < length lengths → IsListing (cuts_from p) p lengths k a items → v ≡ slice_index p.values (a + get_or lengths k 0 - 1) → more ≡ items ++ v ∷ []
    → IsListing (cuts_from p) p lengths (k + 1) (a + get_or lengths k 0) more
cuts-more p lengths k a items more v few is e g = record {
  whole = omega (arith, is.whole, sum-next lengths k (omega arith));
  joined =
      ap (λ ls. ls ++ cuts_from p (a + get_or lengths k 0) (drop (k + 1) lengths)) g
      ∙ append_assoc items (v ∷ []) (cuts_from p (a + get_or lengths k 0) (drop (k + 1) lengths))
      ∙ ap (λ x. items ++ x ∷ cuts_from p (a + get_or lengths k 0) (drop (k + 1) lengths)) e
      ∙ ap (λ ls. items ++ slice_index p.values (a + get_or lengths k 0 - 1) ∷ cuts_from p (a + get_or lengths k 0) ls) next
      ∙ ap (λ ls. items ++ cuts_from p a (get_or lengths k 0 ∷ ls)) (sym next)
      ∙ ap (λ ls. items ++ cuts_from p a ls) (sym (drop_more lengths k 0 (omega arith)))
      ∙ is.joined;
}
  where
    next : drop (k + 1) lengths ≡ get_or lengths (k + 1) 0 ∷ drop (k + 1 + 1) lengths
    next = drop_more lengths (k + 1) 0 few
