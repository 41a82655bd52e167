-- What is left stands at the front.
use Rattle.std.proofs.Common.{ℕ, ◌≡◌, ◌+◌, ◌-◌, ◌≤◌, ◌∙◌, List, length, take, drop, ap, arith, length-drop, take_all}
use Rattle.std.specs.List.{copy_within}
use Rattle.std.specs.Vec.{vec_len}
use Rattle.std.proofs.Math.Seq.{take-paste}
use Rattle.nrm_hub.proofs.front.drop_front.Goals as goal

zero-more : (n : ℕ) → n ≡ 0 + n
zero-more n = omega arith

moved : {T : Type 0} (xs : List T) (count n : ℕ) → count ≤ length xs → n ≡ length xs → take (n - count) (copy_within xs count n 0) ≡ drop count xs
moved xs count n within is =
    let left = length-drop count xs in
    ap (λ (k : ℕ). take k (copy_within xs count n 0)) (zero-more (n - count))
    ∙ take-paste xs 0 (drop count xs) (n - count) (omega arith) (omega arith)
    ∙ take_all (n - count) (drop count xs) (omega arith)

pub returns : goal.returns
returns g c =
    let xs = c.args.list.now.items in
    let n = vec_len c.args.list.now in
    c.truncate.ensures.items ∙ ap (take (c.len.result - c.args.count)) c.copy_within.ensures.items
    ∙ ap (λ (k : ℕ). take (k - c.args.count) (copy_within xs c.args.count n 0)) c.len.ensures
    ∙ moved xs c.args.count n c.requires (omega (arith, c.args.list.now.ok.0))
