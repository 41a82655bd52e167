-- The bytes at the front are a name where the byte stands right behind them.
use Rattle.std.proofs.Common.{◌≡◌, ◌∙◌, ◌+◌, ◌-◌, ℕ, List, Some, length, take, drop, replicate, sym, ap, arith, inl, inr}
use Rattle.std.proofs.lemmas.List.{length-take-le, take-append-le, take_all, take_rest}
use Rattle.nrm_text.proofs.FirstNames.{name-ended, name-missing}
use Rattle.nrm_text.proofs.name.name_before.Goals as goal
use Rattle.nrm_text.proofs.name.name_before.Goals.{then-len-eq0-via-then-len-eq0, then-len-eq0-via-else-len-eq0+then-len-bytes}
use Rattle.nrm_text.proofs.name.name_before.Goals.{then-len-eq0-via-else-len-eq0+else-len-bytes+then-bytes-len}

pub returns-then-len-eq0 : goal.returns-then-len-eq0
returns-then-len-eq0 c =
    let front = c.front_of-len in
    name-missing c.args.end c.args.bytes.now front.result.1 front.ensures.within front.ensures.few front.ensures.may_stand
    front.ensures.stops c.requires
    (elim c.then-len-eq0.branch [
      | then-len-eq0-via-then-len-eq0 w ↦ inl (omega (arith, w.if-len-eq0.true))
      | then-len-eq0-via-else-len-eq0+then-len-bytes w ↦ inr (inl (omega (arith, w.if-len-bytes.true)))
      | then-len-eq0-via-else-len-eq0+else-len-bytes+then-bytes-len w ↦ inr (inr w.if-bytes-len.true)
    ])

pub returns : goal.returns
returns c =
    let front = c.front_of-len in
    let n : ℕ = front.result.1 in
    let xs : List ℕ = c.args.bytes.now in
    let long : length (take n xs) ≡ n = length-take-le n xs front.ensures.within in
    let name : take n front.result.0 ≡ take n xs =
    ap (take n) front.ensures.padded ∙ take-append-le n (take n xs) (replicate (12 - n) 0) (omega (arith, long))
    ∙ take_all n (take n xs) (omega (arith, long)) in
    let rest : take (length xs - (n + 1)) (drop (n + 1) xs) ≡ drop (n + 1) xs = take_rest xs (n + 1) in
    name-ended c.args.end xs n front.ensures.within front.ensures.few front.ensures.may_stand front.ensures.stops c.requires
    (omega (arith, c.if-len-eq0.false)) (omega (arith, c.if-len-bytes.false, front.ensures.within)) c.if-bytes-len.false
    ∙ (λ j. Some (sym name j, sym rest j))
