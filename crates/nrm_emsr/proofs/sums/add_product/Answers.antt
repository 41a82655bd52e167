-- One history more.
use Rattle.std.proofs.Common.{ℕ, List, ◌≡◌, ◌∙◌, ◌+◌, ◌<◌, ◌∷◌, ◌++◌, [], append_assoc, drop, get_or, length, map, set, sym, ap, arith}
use Rattle.std.specs.List.{range_with_len}
use Rattle.std.proofs.lemmas.List.{drop_more, get_or_at, set_at}
use Rattle.std.proofs.lemmas.List.FromFn.{length-map-range_with_len, map-range_with_len_more}
use Rattle.nrm_model.specs.Demand.{demand_to_come}
use Rattle.nrm_model.proofs.DemandLemmas.{sum-range-more}
use Rattle.nrm_emsr.proofs.sums.add_product.Goals as goal

one-more : (f : ℕ → ℕ) (before now : List ℕ) (k read seats : ℕ) → k < length before → now ≡ map (λ h. get_or before h 0 + f h) (range_with_len 0 k) ++ drop k before
    → read ≡ get_or now k read → seats ≡ f k
    → set now k (read + seats) ≡ map (λ h. get_or before h 0 + f h) (range_with_len 0 (k + 1)) ++ drop (k + 1) before
one-more f before now k read seats short are there is =
    let sum : ℕ → ℕ = λ h. get_or before h 0 + f h in
    let front : List ℕ = map sum (range_with_len 0 k) in
    let y : ℕ = get_or before k 0 in
    let rest : List ℕ = drop (k + 1) before in
    let long = length-map-range_with_len sum 0 k in
    let split : now ≡ front ++ y ∷ rest = are ∙ ap (λ (xs : List ℕ). front ++ xs) (drop_more before k 0 short) in
    let old : read ≡ y = there ∙ ap (λ (xs : List ℕ). get_or xs k read) split ∙ get_or_at front y rest read k long in
    (λ n. set (split n) k (old n + is n)) ∙ set_at front y rest (sum k) k long
    ∙ sym (append_assoc front (sum k ∷ []) rest)
    ∙ ap (λ (xs : List ℕ). xs ++ rest) (sym (map-range_with_len_more sum 0 k k (omega arith)))

pub loop-history-preserved : goal.loop-history-preserved
loop-history-preserved c =
    let come : ℕ → ℕ = λ h. demand_to_come c.args.net.now c.args.product h c.args.period in
    let short : c.loop-history.history < length c.args.demands.now.items = omega (arith, c.requires.long, c.loop-history-test.true, c.n-history-end.ensures.histories) in
    record {
      total = (λ n. c.loop-history.invariant.total n + c.to_come-seats.ensures.seats n) ∙ sym (sum-range-more come c.loop-history.history);
      within = omega (arith, c.loop-history.invariant.within, c.to_come-seats.ensures.within);
      demands = one-more come c.args.demands.now.items c.loop-history.demands.items c.loop-history.history c.index_mut.result.now c.to_come-seats.result short c.loop-history.invariant.demands c.index_mut.ensures.value c.to_come-seats.ensures.seats;
    }
