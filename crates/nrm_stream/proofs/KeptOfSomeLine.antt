-- What a splitter keeps is what is kept of some line: so the promises of its calls always speak of a line.
use Rattle.std.proofs.Common.{ℕ, ◌≡◌, ◌∙◌, ◌≤◌, Bool, true, false, List, length, take, Option, Some, None, refl, sym, arith, nat_le}
use Rattle.std.proofs.Common.{replicate, length-take}
use Rattle.std.specs.Prelude.{if◌then◌else◌}
use Rattle.nrm_stream.specs.Splitting.{kept_of}

kept-short : (line : List ℕ) → length line ≤ 22 → kept_of line ≡ Some line
kept-short line few = let e : nat_le (length line) 22 ≡ true = grind (arith, few) in rw e refl

pub kept-stands : (longer : Bool) (len : ℕ) (bytes : List ℕ) (kept : Option (List ℕ)) → (if longer then None else Some (take len bytes))
    ≡ kept → len ≤ 22 → (line : List ℕ) × (kept ≡ kept_of line)
kept-stands true len bytes kept shown few = (replicate 23 0, sym shown)
kept-stands false len bytes kept shown few =
    (take len bytes, sym shown ∙ sym (kept-short (take len bytes) (omega (arith, length-take len bytes))))
