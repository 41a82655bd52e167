-- The states of draws.
use Rattle.std.proofs.Common.{ℕ, ◌≡◌, ◌+◌, List, map, add-one, ◌∙◌, ap, sym}
use Rattle.std.specs.List.{range_with_len}
use Rattle.nrm_gen.specs.Draws.{draw_of, drawn, state_after, stirred}
use Rattle.nrm_gen.specs.MadeNetwork.{made_demand}

-- one more draw
pub state_after_more : (number k : ℕ) → state_after number (k + 1) ≡ stirred (state_after number k)
unfolding state_after
state_after_more number k = rw (add-one k)

-- the state after it, and what it gives
pub next-state : (number k before after : ℕ) → before ≡ state_after number k → after ≡ stirred before → after ≡ state_after number (k + 1)
next-state number k before after begun stirs = stirs ∙ ap stirred begun ∙ sym (state_after_more number k)

pub next-number : (number k m before after given : ℕ) → before ≡ state_after number k → after ≡ stirred before → given ≡ drawn m after
    → given ≡ draw_of number k m
unfolding state_after
next-number number k m before after given begun stirs gives = gives ∙ ap (drawn m) (stirs ∙ ap stirred begun)

-- all of the demand
pub whole-demand : (number n : ℕ) (demand : List ℕ) → n ≡ 1920 → demand ≡ map (λ k. draw_of number (72 + k) 6) (range_with_len 0 n)
    → demand ≡ made_demand number
unfolding made_demand
whole-demand number n demand all made = made ∙ ap (λ (n : ℕ). map (λ k. draw_of number (72 + k) 6) (range_with_len 0 n)) all
