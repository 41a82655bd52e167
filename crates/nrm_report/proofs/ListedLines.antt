-- Lines that are put for one number of a list after another.
use Rattle.std.proofs.Common.{ℕ, ◌≡◌, ◌∙◌, ◌+◌, ◌<◌, ◌≤◌, List, [], ◌∷◌, ◌++◌, Option, flat_map, get_or, length, take, drop, sym, ap, subst, append-nil}
use Rattle.std.proofs.lemmas.Grind.{flat_map-append}
use Rattle.std.proofs.lemmas.List.{take-append-drop, take_all, take_more}
use Rattle.std.proofs.KnownBytes.{Appends-trans}
use Rattle.std.specs.Io.KnownBytes.{Appends}
use Rattle.nrm_edge.specs.Pieces.{AppendsFront}
use Rattle.nrm_edge.proofs.Sent.{AppendsFront-after, AppendsFront-more}

module _ (line : ℕ → List ℕ) (numbers : List ℕ) (k : ℕ) (a b c : Option (List ℕ)) where
  one-more : k < length numbers → flat_map line (take (k + 1) numbers) ≡ flat_map line (take k numbers) ++ line (get_or numbers k 0)
  one-more short =
      ap (flat_map line) (take_more numbers k 0 short) ∙ flat_map-append line (take k numbers) (get_or numbers k 0 ∷ [])
      ∙ ap (λ (last : List ℕ). flat_map line (take k numbers) ++ last) (append-nil (line (get_or numbers k 0)))

  -- the lines so far went out, and then one line
  pub line-sent : k < length numbers → Appends a b (flat_map line (take k numbers)) → Appends b c (line (get_or numbers k 0)) → Appends a c (flat_map line (take (k + 1) numbers))
  line-sent short first next = subst (Appends a c) (sym (one-more short)) (Appends-trans a b c (flat_map line (take k numbers)) (line (get_or numbers k 0)) first next)

  -- the lines so far went out, and then a front of one line: a front of all lines
  pub line-cut : k < length numbers → Appends a b (flat_map line (take k numbers)) → AppendsFront b c (line (get_or numbers k 0)) → AppendsFront a c (flat_map line numbers)
  line-cut short first front =
      let so_far : List ℕ = flat_map line (take (k + 1) numbers) in
      let all : flat_map line (take (k + 1) numbers) ++ flat_map line (drop (k + 1) numbers) ≡ flat_map line numbers =
      sym (flat_map-append line (take (k + 1) numbers) (drop (k + 1) numbers)) ∙ ap (flat_map line) (take-append-drop (k + 1) numbers) in
      let here = AppendsFront-after a b c (flat_map line (take k numbers)) (line (get_or numbers k 0)) first front in
      subst (AppendsFront a c) all (AppendsFront-more a c so_far (flat_map line (drop (k + 1) numbers)) (subst (AppendsFront a c) (sym (one-more short)) here))
