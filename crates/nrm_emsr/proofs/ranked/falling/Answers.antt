use Rattle.std.proofs.Common.{ℕ, Bool, nat_lt, rules}
use Rattle.std.proofs.lemmas.List.Sorted.{IsStrictWeakOrder-by_number, IsStrictWeakOrder-flip, answers_always}
use Rattle.nrm_emsr.proofs.Places.{sorted-falls}
use Rattle.nrm_emsr.proofs.ranked.falling.Goals as goal

pub returns-clause-falls : goal.returns-clause-falls
returns-clause-falls c =
    let greater : ℕ → ℕ → Bool = λ x y. nat_lt y x in
    sorted-falls c.sort_unstable_by.new.self.items (c.sort_unstable_by.ensures.sorted greater (IsStrictWeakOrder-flip nat_lt (IsStrictWeakOrder-by_number (λ (x : ℕ). x))) (answers_always _ _ _ (λ f a r g h. search rules)))
