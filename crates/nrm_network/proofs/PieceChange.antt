-- Lists that are made of pieces of one length, where one piece changes: the demand of a product in a history.
use Rattle.std.proofs.Common.{ℕ, zero, suc, ◌≡◌, ◌≢◌, ◌∙◌, ◌+◌, ◌*◌, ◌<◌, List, [], ◌∷◌, ◌++◌, length, flat_map, take, drop, get_or, set}
use Rattle.std.proofs.Common.{refl, sym, ap, subst, arith, length-append, append_assoc}
use Rattle.std.specs.List.{range_with_len}
use Rattle.std.proofs.Math.Seq.{take-append_seam, drop-append_seam, drop-append-add, set-append_seam, get_or-append_seam}
use Rattle.std.proofs.lemmas.List.FromFn.{get_or-range_with_len, length-range_with_len}
use Rattle.nrm_network.specs.Rows.{Row}

-- two lists that differ at one piece, the one of this number among pieces of one size
pub record Differ {A : Type 0} (size k : ℕ) (old new was is : List A) : Type 0 where
  pub front : List A
  pub back : List A
  pub long : length front ≡ k * size
  pub old_is : old ≡ front ++ (was ++ back)
  pub new_is : new ≡ front ++ (is ++ back)

-- lists of the same pieces
same-pieces : {X A : Type 0} (f g : X → List A) (xs : List X) (d : X) → ((k : ℕ) → k < length xs → g (get_or xs k d) ≡ f (get_or xs k d))
    → flat_map g xs ≡ flat_map f xs
same-pieces f g [] d same = refl
same-pieces f g (x ∷ xs) d same = rw (same 0 (omega arith), same-pieces f g xs d (λ k short. same (suc k) (omega arith))) refl

one-more : (j size n : ℕ) → n ≡ j * size → size + n ≡ suc j * size
one-more j size n e = omega (arith, e)

one-piece : {X A : Type 0} (f g : X → List A) (xs : List X) (j size : ℕ) (d : X) → j < length xs → ((x : X) → length (f x) ≡ size)
    → ((k : ℕ) → k < length xs → k ≢ j → g (get_or xs k d) ≡ f (get_or xs k d))
    → Differ size j (flat_map f xs) (flat_map g xs) (f (get_or xs j d)) (g (get_or xs j d))
one-piece f g [] j size d short long same = absurd (omega arith)
one-piece f g (x ∷ xs) zero size d short long same = record {
  front = [];
  back = flat_map f xs;
  long = omega arith;
  old_is = refl;
  new_is = ap (λ ys. g x ++ ys) (same-pieces f g xs d (λ k few. same (suc k) (omega arith) (omega arith)));
}
one-piece f g (x ∷ xs) (suc j) size d short long same =
    let more = one-piece f g xs j size d (omega arith) long (λ k few other. same (suc k) (omega arith) (λ e. other (omega arith))) in
    record {
      front = f x ++ more.front;
      back = more.back;
      long = length-append (f x) more.front ∙ ap (λ n. n + length more.front) (long x) ∙ one-more j size (length more.front) more.long;
      old_is = ap (λ ys. f x ++ ys) more.old_is ∙ sym (append_assoc (f x) more.front (f (get_or xs j d) ++ more.back));
      new_is = ap (λ ys. ys ++ flat_map g xs) (same 0 (omega arith) (omega arith)) ∙ ap (λ ys. f x ++ ys) more.new_is
          ∙ sym (append_assoc (f x) more.front (g (get_or xs j d) ++ more.back));
    }

-- pieces of one length are together so many times as long
pub long-pieces : {X A : Type 0} (f : X → List A) (xs : List X) (size : ℕ) → ((x : X) → length (f x) ≡ size)
    → length (flat_map f xs) ≡ length xs * size
long-pieces f [] size long = omega arith
long-pieces f (x ∷ xs) size long = length-append (f x) (flat_map f xs) ∙ ap (λ n. n + length (flat_map f xs)) (long x)
    ∙ one-more (length xs) size (length (flat_map f xs)) (long-pieces f xs size long)

cell-place : (j histories h size a b : ℕ) → a ≡ j * (histories * size) → b ≡ h * size → a + b ≡ (j * histories + h) * size
cell-place j histories h size a b e f = omega (arith, e, f)

regroup : {A : Type 0} (a b piece c d : List A) → a ++ ((b ++ (piece ++ c)) ++ d) ≡ (a ++ b) ++ (piece ++ (c ++ d))
regroup a b piece c d = simp append_assoc

within-piece : {A : Type 0} (whole piece front back a inner b : List A) → whole ≡ front ++ (piece ++ back) → piece ≡ a ++ (inner ++ b)
    → whole ≡ (front ++ a) ++ (inner ++ (b ++ back))
within-piece whole piece front back a inner b e f = e ∙ ap (λ ys. front ++ (ys ++ back)) f ∙ regroup front a inner b back

-- pieces within pieces: the piece of a history in the piece of a product
pub one-cell : {A : Type 0} (f g : Row → ℕ → List A) (products : List Row) (histories size j h : ℕ) → j < length products → h < histories
    → ((p : Row) (t : ℕ) → length (f p t) ≡ size)
    → ((k : ℕ) → k < length products → k ≢ j → (t : ℕ) → g (get_or products k []) t ≡ f (get_or products k []) t)
    → ((t : ℕ) → t ≢ 1 + h → g (get_or products j []) t ≡ f (get_or products j []) t)
    → Differ size (j * histories + h) (flat_map (λ p. flat_map (f p) (range_with_len 1 histories)) products)
    (flat_map (λ p. flat_map (g p) (range_with_len 1 histories)) products) (f (get_or products j []) (1 + h))
    (g (get_or products j []) (1 + h))
one-cell f g products histories size j h few few_histories long others then =
    let range : List ℕ = range_with_len 1 histories in
    let p : Row = get_or products j [] in
    let outer = one-piece (λ q. flat_map (f q) range) (λ q. flat_map (g q) range) products j (histories * size) [] few
    (λ q. long-pieces (f q) range size (long q) ∙ ap (λ n. n * size) (length-range_with_len 1 histories))
    (λ k short other. same-pieces (f (get_or products k [])) (g (get_or products k [])) range 0
    (λ i there. others k short other (get_or range i 0))) in
    let within : h < length range = omega (arith, few_histories, length-range_with_len 1 histories) in
    let inner = one-piece (f p) (g p) range h size 0 within (long p)
    (λ i short other. let short_i : i < histories = omega (arith, short, length-range_with_len 1 histories) in
    then (get_or range i 0) (λ e. other (omega (arith, e, get_or-range_with_len 1 histories i 0 short_i)))) in
    let here = get_or-range_with_len 1 histories h 0 few_histories in
    record {
      front = outer.front ++ inner.front;
      back = inner.back ++ outer.back;
      long = length-append outer.front inner.front
          ∙ cell-place j histories h size (length outer.front) (length inner.front) outer.long inner.long;
      old_is = subst (λ t. flat_map (λ q. flat_map (f q) range) products
          ≡ (outer.front ++ inner.front) ++ (f p t ++ (inner.back ++ outer.back))) here
          (within-piece (flat_map (λ q. flat_map (f q) range) products) (flat_map (f p) range) outer.front outer.back inner.front
          (f p (get_or range h 0)) inner.back outer.old_is inner.old_is);
      new_is = subst (λ t. flat_map (λ q. flat_map (g q) range) products
          ≡ (outer.front ++ inner.front) ++ (g p t ++ (inner.back ++ outer.back))) here
          (within-piece (flat_map (λ q. flat_map (g q) range) products) (flat_map (g p) range) outer.front outer.back inner.front
          (g p (get_or range h 0)) inner.back outer.new_is inner.new_is);
    }

-- what a write of the piece leaves
pub written : {A : Type 0} (size k : ℕ) (old new was is : List A) → Differ size k old new was is → length was ≡ size → length is ≡ size
    → take (k * size) old ++ (is ++ drop (k * size + length is) old) ≡ new
written size k old new was is d long long_is =
    let front : take (k * size) old ≡ d.front = ap (λ n. take n old) (sym d.long) ∙ ap (λ xs. take (length d.front) xs) d.old_is
    ∙ take-append_seam d.front (was ++ d.back) in
    let past : drop (length d.front + length was) old ≡ d.back = ap (λ xs. drop (length d.front + length was) xs) d.old_is
    ∙ drop-append-add d.front (was ++ d.back) (length was) ∙ drop-append_seam was d.back in
    let place : k * size + length is ≡ length d.front + length was = omega (arith, d.long, long, long_is) in
    ap (λ xs. xs ++ (is ++ drop (k * size + length is) old)) front ∙ ap (λ n. d.front ++ (is ++ drop n old)) place
    ∙ ap (λ xs. d.front ++ (is ++ xs)) past ∙ sym d.new_is

-- the same of one element
pub written-one : {A : Type 0} (k : ℕ) (old new : List A) (was is : A) → Differ 1 k old new (was ∷ []) (is ∷ []) → set old k is ≡ new
written-one k old new was is d =
    let place : k ≡ length d.front = omega (arith, d.long) in
    ap (λ n. set old n is) place ∙ ap (λ xs. set xs (length d.front) is) d.old_is ∙ set-append_seam d.front was d.back is ∙ sym d.new_is

-- and what stands there before
pub read-one : {A : Type 0} (k : ℕ) (old new : List A) (was is d : A) → Differ 1 k old new (was ∷ []) (is ∷ []) → get_or old k d ≡ was
read-one k old new was is d differ =
    let place : k ≡ length differ.front = omega (arith, differ.long) in
    ap (λ n. get_or old n d) place ∙ ap (λ xs. get_or xs (length differ.front) d) differ.old_is
    ∙ get_or-append_seam differ.front was differ.back d
