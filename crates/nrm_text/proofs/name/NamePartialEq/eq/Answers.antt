-- Names of one length are the same exactly where their bytes with the zeros behind them are.
use Rattle.std.proofs.Common.{ℕ, ◌≡◌, ◌∙◌, ◌-◌, ◌++◌, List, bytes_eq, take, drop, replicate, sym, ap, take-append-drop}
use Rattle.std.proofs.lemmas.Bool.Decides.{same_from_decides}
use Rattle.std.proofs.lemmas.Slice.Eq.{bytes_eq-Decides}
use Rattle.nrm_text.proofs.name.NamePartialEq.eq.Goals as goal

same-padded : (n m : ℕ) (xs ys a b : List ℕ) → n ≡ m → take n xs ≡ a → take m ys ≡ b → drop n xs ≡ replicate (12 - n) 0 → drop m ys
    ≡ replicate (12 - m) 0
    → bytes_eq xs ys ≡ bytes_eq a b
same-padded n m xs ys a b same front front' rest rest' =
    let (down, up) = bytes_eq-Decides xs ys in
    let names : xs ≡ ys → a ≡ b = λ e. sym front ∙ (λ i. take (same i) (e i)) ∙ front' in
    let wholes : a ≡ b → xs ≡ ys = λ e.
    sym (take-append-drop n xs) ∙ (λ i. (front ∙ e ∙ sym front') i ++ (rest ∙ ap (λ k. replicate (12 - k) 0) same ∙ sym rest') i)
    ∙ take-append-drop m ys in
    same_from_decides (bytes_eq xs ys) (bytes_eq a b) (λ yes. names (down yes), λ e. up (wholes e)) (bytes_eq-Decides a b)

pub returns-then-self-other : goal.returns-then-self-other
returns-then-self-other c =
    let one = c.self.inside in
    let other = c.other.inside in
    c.eq.ensures
    ∙ same-padded one.len other.len one.bytes other.bytes c.args.self.now c.args.other.now c.if-self-other.true c.self.view_is
    c.other.view_is c.self.invariant.2 c.other.invariant.2
