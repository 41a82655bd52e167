-- Bytes with zeros behind them, one byte after another.
use Rattle.std.proofs.Common.{ℕ, ◌≡◌, ◌∙◌, ◌+◌, ◌-◌, ◌<◌, suc, List, [], ◌∷◌, ◌++◌, length, take, get_or, replicate, sym, ap, arith}
use Rattle.std.proofs.Common.{append_assoc}
use Rattle.std.proofs.Math.ListN.{set}
use Rattle.std.proofs.Math.Seq.{set-append_seam}
use Rattle.std.proofs.lemmas.List.{length-take, take_more}

-- the first of the zeros is written over
one-more : (front : List ℕ) (c m : ℕ) → set (front ++ replicate (suc m) 0) (length front) c ≡ (front ++ c ∷ []) ++ replicate m 0
one-more front c m = set-append_seam front 0 (replicate m 0) c ∙ sym (append_assoc front (c ∷ []) (replicate m 0))

pub padded-more : (bytes kept : List ℕ) (i room : ℕ) → i < length bytes → i < room → kept ≡ take i bytes ++ replicate (room - i) 0
    → set kept i (get_or bytes i 0) ≡ take (i + 1) bytes ++ replicate (room - (i + 1)) 0
padded-more bytes kept i room within short is =
    let c : ℕ = get_or bytes i 0 in
    let front : List ℕ = take i bytes in
    let zeros : room - i ≡ suc (room - (i + 1)) = omega arith in
    let long : length front ≡ i = omega (arith, length-take i bytes) in
    ap (λ (k : List ℕ). set k i c) is ∙ ap (λ (n : ℕ). set (front ++ replicate n 0) i c) zeros
    ∙ ap (λ (n : ℕ). set (front ++ replicate (suc (room - (i + 1))) 0) n c) (sym long)
    ∙ one-more front c (room - (i + 1)) ∙ ap (λ (f : List ℕ). f ++ replicate (room - (i + 1)) 0) (sym (take_more bytes i 0 within))
