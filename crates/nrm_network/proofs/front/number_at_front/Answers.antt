-- A digit more is behind those that were read.
use Rattle.std.proofs.Common.{ℕ, ◌∙◌, ◌+◌, ◌++◌, ◌∷◌, [], List, ap, append_assoc, sym}
use Rattle.nrm_network.proofs.FrontRows.{digit-more, one-digit}
use Rattle.nrm_network.proofs.front.number_at_front.Goals as goal

pub loop-number-init : goal.loop-number-init
loop-number-init c =
    let (digit, is) = c.in_ok-number.ensures in
    record { text = (c.in_ok-number.number + 48) ∷ []; is = is; number = one-digit c.in_ok-number.number digit }

pub loop-number-preserved : goal.loop-number-preserved
loop-number-preserved c =
    let before = c.loop-number.invariant in
    let (digit, is) = c.in-Some.ensures in
    let text : List ℕ = before.text in record {
      text = text ++ (c.in-Some.ones + 48) ∷ [];
      is = before.is ∙ ap (λ (more : List ℕ). text ++ more) is ∙ sym (append_assoc text ((c.in-Some.ones + 48) ∷ []) c.in-Some.behind.now);
      number = digit-more text c.loop-number.number c.in-Some.ones before.number c.loop-number-test.true c.if-number-lt100.true digit;
    }
