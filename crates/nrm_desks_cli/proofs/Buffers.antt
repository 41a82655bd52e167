-- Bytes in a buffer: what waits is moved to its front, and more come behind.
use Rattle.std.proofs.Common.{ℕ, ◌≡◌, ◌∙◌, ◌+◌, ◌-◌, ◌≤◌, List, ◌++◌, length, take, drop, sym, ap, arith, length-drop}
use borrow.Rule.Slice.PartMut.{mid_of, post_of, put_mid, same_len_mid}
use Rattle.std.specs.List.{copy_within}
use Rattle.std.proofs.Math.Seq.{take-append-add, take-paste}
use Rattle.std.proofs.lemmas.List.{drop-take, length-take-le, take-append-le}

sum-back : (s e : ℕ) → s ≤ e → s + (e - s) ≡ e
sum-back s e h = omega arith

-- what waits is the front, once it was moved
front-is : (s e : ℕ) (xs : List ℕ) → s ≤ e → take (e - s) (drop s xs) ≡ drop s (take e xs)
front-is s e xs h = sym (drop-take s (e - s) xs) ∙ ap (λ (n : ℕ). drop s (take n xs)) (sum-back s e h)

zero-more : (n : ℕ) → n ≡ 0 + n
zero-more n = omega arith

pub front-moved : (xs : List ℕ) (s e : ℕ) → s ≤ e → e ≤ length xs → take (e - s) (copy_within xs s e 0) ≡ drop s (take e xs)
front-moved xs s e ordered within =
    ap (λ (n : ℕ). take n (copy_within xs s e 0)) (zero-more (e - s))
    ∙ take-paste xs 0 (drop s xs) (e - s) (omega arith) (let left = length-drop s xs in omega arith)
    ∙ front-is s e xs ordered

-- more bytes behind those that wait
pub came-behind : (xs into post : List ℕ) (e count : ℕ) → e ≤ length xs → count ≤ length into
    → take (e + count) (take e xs ++ (into ++ post)) ≡ take e xs ++ take count into
came-behind xs into post e count within few =
    ap (λ (n : ℕ). take (n + count) (take e xs ++ (into ++ post))) (sym (length-take-le e xs within))
    ∙ take-append-add (take e xs) (into ++ post) count
    ∙ ap (λ (front : List ℕ). take e xs ++ front) (take-append-le count into post few)

module _ (waits xs into : List ℕ) (e k count : ℕ) (front : take e xs ≡ waits) (within : e ≤ length xs) (rest : k ≡ length xs - e)
    (size : length into ≡ length (mid_of e k xs)) where
  pub into-size : length into ≡ k
  into-size =
      let left = length-drop e xs in
      size ∙ length-take-le k (drop e xs) (omega arith)

  pub whole-size : length (put_mid e k xs into) ≡ length xs
  whole-size = same_len_mid e k xs into size

  pub taken-behind : count ≤ length into → take (e + count) (put_mid e k xs into) ≡ waits ++ take count into
  taken-behind few = came-behind xs into (post_of e k xs) e count within few ∙ ap (λ (w : List ℕ). w ++ take count into) front
