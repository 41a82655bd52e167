-- What was sent of a piece, and then some more of its rest.
use Rattle.std.proofs.Common.{ℕ, List, Option, ◌+◌, ◌-◌, ◌++◌, take, drop, length, length-append, arith}
use Rattle.std.proofs.lemmas.List.{take_rest, take-append-le}
use Rattle.std.proofs.KnownBytes.{Appends-trans}
use Rattle.std.proofs.Math.Seq.{take-add, take-append-add}
use Rattle.std.specs.Io.KnownBytes.{Appends}
use Rattle.std.specs.Prelude.{Result, Ok, Err, OnErr}
use Rattle.nrm_edge.specs.Pieces.{AppendsFront}

-- a front went out, and then a front of what was left of the piece
pub Appends-more : (a b c : Option (List ℕ)) (piece : List ℕ) (sent more : ℕ) → Appends a b (take sent piece)
    → Appends b c (take more (take (length piece - sent) (drop sent piece))) → Appends a c (take (sent + more) piece)
Appends-more a b c piece sent more first next =
    rw (take-add sent more piece) (Appends-trans a b c (take sent piece) (take more (drop sent piece)) first
    (rw (take_rest piece sent) at next))

-- a front of a text is a front of the text and more
pub AppendsFront-more : (a b : Option (List ℕ)) (text more : List ℕ) → AppendsFront a b text → AppendsFront a b (text ++ more)
AppendsFront-more a b text more front = record {
  count = front.count;
  short = omega (arith, front.short, length-append text more);
  grown = rw (take-append-le front.count text more (omega (arith, front.short))) front.grown;
}

-- a text went out, and then a front of more: a front of both
pub AppendsFront-after : (a b c : Option (List ℕ)) (text more : List ℕ) → Appends a b text → AppendsFront b c more
    → AppendsFront a c (text ++ more)
AppendsFront-after a b c text more whole front = record {
  count = length text + front.count;
  short = omega (arith, front.short, length-append text more);
  grown = rw (take-append-add text more front.count) (Appends-trans a b c text (take front.count more) whole front.grown);
}

-- what holds, holds of a failed call
pub OnErr-holds : {T E P : Type 0} (result : Result T E) → P → OnErr result P
OnErr-holds (Ok value) holds = tt
OnErr-holds (Err error) holds = holds
