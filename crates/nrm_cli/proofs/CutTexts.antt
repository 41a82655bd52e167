-- A text that was put whole and couldn't be sent on, and one in which a put failed, are cut.
use Rattle.std.proofs.Common.{ℕ, List, Option, Result, Ok, Err, inl, inr}
use Rattle.std.specs.Prelude.{OnErr}
use Rattle.std.specs.Io.KnownBytes.{Appends, Keeps}
use Rattle.std.proofs.KnownBytes.{Appends-kept}
use Rattle.nrm_edge.specs.Pieces.{AppendsCut, AppendsFront}

pub flushed-cut : {T E : Type 0} (held held' held'' : Option (List ℕ)) (text : List ℕ) (result : Result T E) → Appends held held' text
    → Keeps held' held'' → OnErr result (AppendsCut held held'' text)
flushed-cut held held' held'' text (Ok value) wrote stays = tt
flushed-cut held held' held'' text (Err error) wrote stays = inr (Appends-kept held held' held'' text wrote stays)

pub put-cut : {T E : Type 0} (held held' : Option (List ℕ)) (text : List ℕ) (result : Result T E)
    → OnErr result (AppendsFront held held' text) → OnErr result (AppendsCut held held' text)
put-cut held held' text (Ok value) front = tt
put-cut held held' text (Err error) front = inl front
